-- `logs::group_end` meets its contract. The invariant: to words stand from `start` on and before the word that is looked at.
-- Assumes nothing.
use Prim.Native.Nat.{◌+◌}
use Rattle.logs.specs.Groups.{ToWords}
use Rattle.logs.proofs.group_end.Given as goal

abbrev pub invariant-loop-k : goal.invariant-loop-k
invariant-loop-k l = ToWords l.log l.start (l.start + l.k)
