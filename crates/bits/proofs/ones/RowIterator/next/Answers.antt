use mathlib.Core.Path.{◌≡◌, refl, ap}
use Prim.Native.Nat.{◌+◌}
use lib.ListN.{get_or}
use native.Mathlib.Omega.{arith}
use Rattle.bits.proofs.Left.{going_on, going_end, bit_given}
use Rattle.bits.proofs.ones.RowIterator.next.Goals as goal

pub returns-in-Some-clause-steps : goal.returns-in-Some-clause-steps
returns-in-Some-clause-steps c =
    let (_, _, same, going, less) = c.loop-bit.invariant in
    bit_given going c.in-Some.ensures.steps _ (ap (λ s. s.words.now) same) (ap (λ s. s.row) same) refl refl

pub returns-then-place-eq8-clause-steps : goal.returns-then-place-eq8-clause-steps
returns-then-place-eq8-clause-steps c =
    let (_, _, same, going, less) = c.loop-bit.invariant in
    (going_end going (omega arith) c.in_default.ensures.steps.0, same)

pub loop-bit-preserved : goal.loop-bit-preserved
loop-bit-preserved c =
    let (_, _, same, going, less) = c.loop-bit.invariant in
    let s = c.args.self.now in
    let next = c.loop-bit.place + 1 in
    let read : c.ones_of-ones.result.rest ≡ get_or s.words.now (s.row + next) 0 = rw c.ones_of-ones.ensures refl in
    let on = going_on going next refl (omega (arith, c.if-place-eq8.false, going.below)) c.in_default.ensures.steps.0 in
    (tt, tt, same, rw read on, omega (arith, less, c.if-place-eq8.false, going.below))
