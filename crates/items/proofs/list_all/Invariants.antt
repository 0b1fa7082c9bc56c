-- `items::list_all` meets its contract. The invariant: the items of the episodes below `v` are listed.
-- Assumes nothing.
use Rattle.items.proofs.Listing.{Listing}
use Rattle.items.proofs.list_all.Given as goal

abbrev pub invariant-loop-v : goal.invariant-loop-v
invariant-loop-v l = Listing l.initial.w l.w l.v l.m
