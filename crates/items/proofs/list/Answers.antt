-- `items::list` meets its contract: where each episode has one voice, its items are the episodes.
-- Assumes nothing.
use Rattle.items.proofs.Listing.{alike_end}
use Rattle.items.proofs.list.Goals as goal

pub returns-clause-listed : goal.returns-clause-listed
returns-clause-listed c =
    let p = c.requires in
    alike_end p.0 p.1 p.2 (c.all_one.ensures.0 c.if-not-all_one.false) c.list_alike.ensures
