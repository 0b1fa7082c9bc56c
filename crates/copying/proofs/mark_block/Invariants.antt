-- `copying::mark_block` meets its contract. The invariant: the block marks the links of the words before the next group.
-- Assumes nothing.
use mathlib.Core.Path.{◌≡◌}
use Rattle.copying.proofs.Rows.{Marking}
use Rattle.copying.proofs.mark_block.Given as goal

abbrev pub invariant-loop-group : goal.invariant-loop-group
invariant-loop-group l =
    (goal.iterator-loop-group).can_next l.group-iterator × (goal.iterator-loop-group).is_finite l.group-iterator × (l.group-iterator.log ≡ l.log)
    × Marking l.w l.block l.group-iterator
