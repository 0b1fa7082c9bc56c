-- `reach::mark_links` meets its contract. The invariant: the links of the words before the next group that count by their own
-- pause are marked.
-- Assumes nothing.
use mathlib.Core.Path.{◌≡◌}
use Rattle.reach.proofs.Marks.{Marking}
use Rattle.reach.proofs.mark_links.Given as goal

abbrev pub invariant-loop-group : goal.invariant-loop-group
invariant-loop-group l =
    (goal.iterator-loop-group).can_next l.group-iterator × (goal.iterator-loop-group).is_finite l.group-iterator × (l.group-iterator.log ≡ l.log)
    × Marking l.initial.w l.w l.group-iterator
