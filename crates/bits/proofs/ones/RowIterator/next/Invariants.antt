-- `next` of the bits of a row meets its contract. The invariant: the same bits are left as when it began, all of them in the word that it has come to and
-- in those behind. Assumes nothing.
use mathlib.Core.Path.{◌≡◌}
use Prim.Native.Nat.{◌-◌, ◌+◌, ◌*◌, ◌≤◌}
use lib.Count.{count_trailing_zeros}
use Rattle.bits.specs.Ones.{bits_left}
use Rattle.bits.proofs.Left.{Going}
use Rattle.bits.proofs.ones.RowIterator.next.Given as goal

abbrev pub invariant-loop-bit : goal.invariant-loop-bit
invariant-loop-bit l =
    (goal.iterator-loop-bit).can_next l.ones × (goal.iterator-loop-bit).is_finite l.ones
    × (l.self ≡ l.initial.self) × Going l.initial.self l.place l.ones.rest
    × (32 * (7 - l.place) + (32 - count_trailing_zeros 32 l.ones.rest) ≤ bits_left l.initial.self)

abbrev pub decreases-loop-bit : goal.decreases-loop-bit
decreases-loop-bit l = 8 - l.place
