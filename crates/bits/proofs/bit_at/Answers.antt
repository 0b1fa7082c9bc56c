-- `bits::bit_at` meets its contract: a bit of a row is a digit of its word.
-- Assumes nothing.
use Rattle.bits.specs.Bits.{bit}
use Rattle.bits.proofs.bit_at.Goals as goal

pub returns : goal.returns
unfolding bit
returns c = c.digit_at.ensures
