-- `bits::without` meets its contract, digit by digit.
-- Assumes nothing.
use Rattle.bits.proofs.Digits.{digit_without}
use Rattle.bits.proofs.without.Goals as goal

pub returns : goal.returns
returns c = digit_without c.args.word c.args.other
