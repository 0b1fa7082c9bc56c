-- `parsing::apart_count` meets its contract. The invariant: the words before this one are apart words.
-- Assumes nothing.
use Rattle.parsing.proofs.ApartWords.{Apart}
use Rattle.parsing.proofs.apart_count.Given as goal

abbrev pub invariant-loop-count : goal.invariant-loop-count
invariant-loop-count l = Apart l.report l.count
