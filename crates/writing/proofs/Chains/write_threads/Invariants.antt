-- `writing::Chains::write_threads` meets its contract. The invariant, `Bundling`: a thread is written for each member below `v`.
-- Assumes nothing.
use Rattle.writing.proofs.Bundling.{Bundling}
use Rattle.writing.proofs.Chains.write_threads.Given as goal

abbrev pub invariant-loop-v : goal.invariant-loop-v
invariant-loop-v l = Bundling l.self.words.now l.self.episodes l.self.items l.initial.out l.out l.at l.v
