-- `bits::join_rows` meets its contract. The invariant: the rows of the lower digits are joined, and the iterator has the others.
-- Assumes nothing.
use Rattle.bits.proofs.Joins.{Taking}
use Rattle.bits.proofs.join_rows.Given as goal

abbrev pub invariant-loop-i : goal.invariant-loop-i
invariant-loop-i l =
    (goal.iterator-loop-i).can_next l.i-iterator × (goal.iterator-loop-i).is_finite l.i-iterator
    × Taking l.w l.base l.x l.initial.v l.v l.i-iterator.rest
