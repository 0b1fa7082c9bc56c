-- `rising::reach_rising` meets its contract. The invariant: the rows from `a` on have their ways, no other row has a bit, and those of
-- these episodes that have links are in `linked`.
-- Assumes nothing.
use Rattle.rising.proofs.Rising.{InRising}
use Rattle.rising.proofs.reach_rising.Given as goal

abbrev pub invariant-loop-a : goal.invariant-loop-a
invariant-loop-a l = InRising l.initial.front l.front l.linked l.n l.a
