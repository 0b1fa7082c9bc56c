-- `bits::any` meets its contract. The invariant: a bit that is not set in `all` is in none of the words before.
-- Assumes nothing.
use Rattle.bits.proofs.Joins.{Gathered}
use Rattle.bits.proofs.any.Given as goal

abbrev pub invariant-loop-word : goal.invariant-loop-word
invariant-loop-word l = Gathered l.v l.word-index l.all
