use Prim.Native.Nat.{◌+◌}
use native.Mathlib.Omega.{arith}
use Rattle.bits.proofs.Digits.{rest_on}
use Rattle.trimming.proofs.Rows.{bit_room, bit_written, bits_written}
use Rattle.trimming.proofs.write_word.Goals as goal

pub bounds-out-count : goal.bounds-out-count
bounds-out-count c =
    let (test, o, tells, s, fits) = c.requires.0 in
    let (can, finite, k, r, listing) = c.loop-bit.invariant in
    let here = listing test o tells s fits in
    omega (arith, bit_room c.args.first tells c.requires.1 r here c.in-Some.ensures.steps fits, here.same_length)

pub loop-bit-preserved : goal.loop-bit-preserved
loop-bit-preserved c =
    let (can, finite, k, r, listing) = c.loop-bit.invariant in
    let taken = c.in-Some.ensures.steps in (
      tt,
      tt,
      c.in-Some.bit + 1,
      rest_on r taken,
      λ test o tells s fits. rw c.word.ensures (bit_written c.args.first tells c.requires.1 r (listing test o tells s fits) taken fits),
    )

pub returns : goal.returns
returns c =
    let (can, finite, k, r, listing) = c.loop-bit.invariant in
    λ test o tells s fits.
    bits_written c.args.first tells c.requires.1 r (listing test o tells s fits) c.in-None.ensures.steps.0
