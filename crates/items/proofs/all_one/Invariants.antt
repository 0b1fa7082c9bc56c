-- `items::all_one` meets its contract. The invariant: `others` is 0 exactly where each of the episodes below `v` has one voice.
-- Assumes nothing.
use Rattle.items.proofs.Listing.{Counting}
use Rattle.items.proofs.all_one.Given as goal

abbrev pub invariant-loop-v : goal.invariant-loop-v
invariant-loop-v l = Counting l.w l.v l.others
