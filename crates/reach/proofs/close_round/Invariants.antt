-- `reach::close_round` meets its contract. The invariant: the rows below `a` have the ways by way of `k` besides, and `ways` has those of `k`.
-- Assumes nothing.
use Rattle.reach.proofs.Rounds.{InRound}
use Rattle.reach.proofs.close_round.Given as goal

abbrev pub invariant-loop-a : goal.invariant-loop-a
invariant-loop-a l = InRound l.initial.w l.w l.ways l.n l.k l.a
