-- `bits::set_bit` meets its contract, by the law of a stored word with one bit more.
-- Assumes nothing.
use Rattle.bits.proofs.Rows.{set_bit_law}
use Rattle.bits.proofs.set_bit.Goals as goal

pub returns : goal.returns
returns c = let a = c.args in set_bit_law a.w.now a.row a.b c.requires
