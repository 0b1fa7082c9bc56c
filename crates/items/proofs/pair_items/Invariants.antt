-- `items::pair_items` meets its contract. The invariant: the items from the start on and before `x` have the row.
-- Assumes nothing.
use Rattle.items.proofs.Pairs.{RowsPut}
use Rattle.items.proofs.pair_items.Given as goal

abbrev pub invariant-loop-x : goal.invariant-loop-x
invariant-loop-x l = RowsPut l.initial.w l.w l.row l.start l.x
