-- `copying::write_groups` meets its contract. The invariant: the groups of the episodes below `a` stand behind the first `start` words, by calls for these.
use Rattle.std.proofs.Common.{◌≡◌, ℕ, ◌+◌, ◌<◌, length}
use Rattle.paths.specs.Graph.{Graph}
use Rattle.copying.specs.FairCopy.{groups}
use Rattle.copying.specs.Calls.{CalledBelow, WritesLinks}
use Rattle.copying.proofs.Copies.{Copying}
use Rattle.copying.proofs.write_groups.Given as goal

abbrev pub invariant-loop-a : goal.invariant-loop-a
invariant-loop-a g l =
    (pause : ℕ → ℕ → ℕ) (h : Graph) → WritesLinks (goal.F-pre g) (goal.F-step g) pause h l.initial.write_row → h.n ≡ l.n
    → l.start + length (groups pause h h.n) < length l.initial.out
    → CalledBelow (goal.F-pre g) (goal.F-step g) pause h l.initial.write_row l.a l.write_row
    × Copying pause h l.start l.initial.out l.out l.words l.links l.a
