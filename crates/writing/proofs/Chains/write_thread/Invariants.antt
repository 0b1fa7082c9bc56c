-- `writing::Chains::write_thread` meets its contract. The invariant, `Filling`: what is written is a thread that ends at `at`, the owner of `item`, and
-- it holds the owners of the chain up to `item`. The measure is what is left of the episodes.
-- Assumes nothing.
use Prim.Native.Nat.{◌+◌, ◌-◌}
use Rattle.writing.proofs.Filling.{Filling}
use Rattle.writing.proofs.Chains.write_thread.Given as goal

abbrev pub invariant-loop-next : goal.invariant-loop-next
invariant-loop-next l = Filling l.self.words.now l.self.episodes l.self.items l.v l.initial.out l.out l.item l.at l.count

abbrev pub decreases-loop-next : goal.decreases-loop-next
decreases-loop-next l = l.self.episodes + 1 - l.count
