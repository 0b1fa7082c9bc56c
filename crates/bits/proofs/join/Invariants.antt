-- `bits::join` meets its contract. The invariant: the first `i` words are joined, and the others as they were.
-- Assumes nothing.
use Rattle.bits.proofs.Rows.{Joining}
use Rattle.bits.proofs.join.Given as goal

abbrev pub invariant-loop-i : goal.invariant-loop-i
invariant-loop-i l = Joining l.from l.initial.to l.to 0 0 l.i
