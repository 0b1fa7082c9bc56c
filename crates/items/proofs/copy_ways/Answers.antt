-- `items::copy_ways` meets its contract: the matrix of the ways is copied to where the pairs are to stand.
-- Assumes nothing.
use Rattle.items.proofs.Pairs.{ways_copied}
use Rattle.items.proofs.copy_ways.Goals as goal

pub returns : goal.returns
returns c = ways_copied c.copy_matrix.ensures
