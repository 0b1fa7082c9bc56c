-- `writing::Chains::hop` meets its contract. The invariant: no link that the iterator has given leads to `b`.
-- Assumes nothing.
use Rattle.writing.proofs.Hops.{Hopping}
use Rattle.writing.proofs.Chains.hop.Given as goal

abbrev pub invariant-loop-x : goal.invariant-loop-x
invariant-loop-x l =
    (goal.iterator-loop-x).can_next l.x-iterator × (goal.iterator-loop-x).is_finite l.x-iterator
    × Hopping l.self.words.now l.c l.b l.x-iterator
