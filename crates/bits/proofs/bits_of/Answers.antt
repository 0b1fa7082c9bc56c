-- `bits::bits_of` meets its contract: nothing of the row is given.
-- Assumes nothing.
use Rattle.bits.specs.Ones.{left}
use Rattle.bits.proofs.Left.{left_all}
use Rattle.bits.proofs.bits_of.Goals as goal

pub returns : goal.returns
unfolding left
returns c = λ b. rw c.ones_of.ensures (left_all c.args.w.now c.args.row b)
