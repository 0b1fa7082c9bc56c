-- `items::item_row` meets its contract. The invariant: of the episodes in the first `i` words of its ways the items are in the row.
-- Assumes nothing.
use Rattle.items.proofs.Rows.{Collecting}
use Rattle.items.proofs.item_row.Given as goal

abbrev pub invariant-loop-i : goal.invariant-loop-i
invariant-loop-i l = Collecting l.w l.masks l.a l.row l.i
