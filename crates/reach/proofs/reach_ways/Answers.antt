-- `reach::reach_ways` meets its contract: links that rise are followed from the last episode to the first, others are copied and closed.
-- Assumes nothing.
use Rattle.reach.proofs.Reached.{closed_reached}
use Rattle.reach.proofs.reach_ways.Goals as goal

pub returns : goal.returns
returns c =
    let a = c.args in
    closed_reached a.w.now c.copy_links.new.w c.close.new.w a.n c.copy_links.ensures c.close.ensures
