-- `items::number` meets its contract. The invariant: the first `i` words are the numbers of their places.
-- Assumes nothing.
use Rattle.items.proofs.Listing.{Numbering}
use Rattle.items.proofs.number.Given as goal

abbrev pub invariant-loop-i : goal.invariant-loop-i
invariant-loop-i l = Numbering l.initial.table l.table l.i
