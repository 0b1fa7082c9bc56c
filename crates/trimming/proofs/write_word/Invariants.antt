-- `trimming::write_word` meets its contract. The invariant: the to words of the lower bits are written, and the iterator has the others.
-- Assumes nothing.
use mathlib.Core.Bool.{Bool}
use mathlib.Core.List.{List}
use Prim.Native.Nat.{ℕ, ◌+◌, ◌<◌}
use lib.ListN.{length}
use Rattle.paths.specs.Passing.{passing}
use Rattle.bits.proofs.Digits.{Rest}
use Rattle.writing.proofs.Listing.{Listing}
use Rattle.trimming.specs.Trimming.{to_unpaused, TellsDigits}
use Rattle.trimming.proofs.write_word.Given as goal

abbrev pub invariant-loop-bit : goal.invariant-loop-bit
invariant-loop-bit l =
    (goal.iterator-loop-bit).can_next l.bit-iterator × (goal.iterator-loop-bit).is_finite l.bit-iterator × (k : ℕ) × Rest l.kept l.bit-iterator.rest k
    × ((test : ℕ → Bool) (o : List ℕ) → TellsDigits test l.kept l.first → Listing test to_unpaused o l.initial.out 256 l.links l.first → length (passing test 256) < length o
    → Listing test to_unpaused o l.out 256 l.count (l.first + k))
