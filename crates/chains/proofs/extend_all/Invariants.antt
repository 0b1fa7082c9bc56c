-- `chains::extend_all` meets its contract. The loop's invariant, `Joining`: the items before `from` have been searched from, and the chains are
-- of pairs of the matrix. Assumes nothing.
use Rattle.chains.proofs.Joining.{Joining}
use Rattle.chains.proofs.extend_all.Given as goal

abbrev pub invariant-loop-from : goal.invariant-loop-from
invariant-loop-from l = Joining l.fn.w l.w l.base l.m l.from
