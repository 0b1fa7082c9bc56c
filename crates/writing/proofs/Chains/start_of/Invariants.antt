-- `writing::Chains::start_of` meets its contract. The invariant: the chain leads from `x` to `v`. The measure is how many episodes have a way to the owner of
-- `x`.
-- Assumes nothing.
use Rattle.items.specs.Listed.{owner_in}
use Rattle.writing.proofs.Starts.{ways_to, Starting}
use Rattle.writing.proofs.Chains.start_of.Given as goal

abbrev pub invariant-loop-before : goal.invariant-loop-before
invariant-loop-before l = Starting l.self.words.now l.v l.x

abbrev pub decreases-loop-before : goal.decreases-loop-before
decreases-loop-before l = ways_to l.self.words.now (owner_in l.self.words.now l.x)
