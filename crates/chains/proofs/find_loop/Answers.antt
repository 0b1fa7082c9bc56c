-- `chains::find_loop` meets its contract. Assumes nothing.
use Rattle.chains.proofs.Looping.{looped}
use Rattle.chains.proofs.find_loop.Goals as goal

pub returns : goal.returns
returns c = looped c.requires.0 c.behind_itself.ensures c.forget.ensures c.extend.ensures
