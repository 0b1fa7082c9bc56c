-- `reach::close` meets its contract. The invariant: the ways with inner episodes below `k` are marked.
-- Assumes nothing.
use Rattle.reach.proofs.Rounds.{InClosure}
use Rattle.reach.proofs.close.Given as goal

abbrev pub invariant-loop-k : goal.invariant-loop-k
invariant-loop-k l = InClosure l.initial.w l.w l.n l.k
