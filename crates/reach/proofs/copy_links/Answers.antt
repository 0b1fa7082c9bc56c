-- `reach::copy_links` meets its contract: the matrix of the links is copied to where the ways are to stand.
-- Assumes nothing.
use Rattle.reach.proofs.Reached.{copied}
use Rattle.reach.proofs.copy_links.Goals as goal

pub returns : goal.returns
returns c = copied c.copy_matrix.ensures
