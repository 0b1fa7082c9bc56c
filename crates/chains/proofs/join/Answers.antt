-- `chains::join` meets its contract. Assumes nothing.
use Rattle.chains.proofs.Joining.{chained_pairs, joined_from}
use Rattle.chains.proofs.join.Goals as goal

pub extend_all-requires : goal.extend_all-requires
extend_all-requires c = chained_pairs c.requires.0 c.first_pairs.ensures

pub returns : goal.returns
returns c = joined_from c.requires.0 c.first_pairs.ensures c.extend_all.ensures
