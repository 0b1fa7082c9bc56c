-- `writing::Chains::write_path` meets its contract. The invariant, `Stepping`: what is written are the steps behind `c` of a path to `at`, and
-- `at` has a way to `b`. The measure is what is left of the episodes.
-- Assumes nothing.
use mathlib.Core.Path.{◌≡◌}
use Prim.Native.Nat.{◌+◌, ◌-◌, ◌*◌}
use Rattle.bits.specs.Bits.{bit}
use Rattle.bits.specs.Work.{ways_at}
use Rattle.writing.proofs.Stepping.{Stepping}
use Rattle.writing.proofs.Chains.write_path.Given as goal

abbrev pub invariant-loop-at : goal.invariant-loop-at
invariant-loop-at l = Stepping l.self.words.now l.self.episodes l.self.items l.c l.initial.out l.out l.at l.count × (bit l.self.words.now (ways_at + 8 * l.at) l.b ≡ 1)

abbrev pub decreases-loop-at : goal.decreases-loop-at
decreases-loop-at l = l.self.episodes - l.count
