-- `chains::first_pairs` meets its contract. The invariant: the items before `a` have been paired. Assumes nothing.
use Rattle.chains.specs.Joined.{PairedIn}
use Rattle.chains.proofs.first_pairs.Given as goal

abbrev pub invariant-loop-a : goal.invariant-loop-a
invariant-loop-a l = PairedIn l.fn.w l.w l.base l.m l.a
