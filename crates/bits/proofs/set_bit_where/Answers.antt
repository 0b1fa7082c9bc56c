-- `bits::set_bit_where` meets its contract: a stored word with one bit more, or as it was.
-- Assumes nothing.
use Rattle.bits.proofs.Rows.{set_where_law}
use Rattle.bits.proofs.set_bit_where.Goals as goal

pub returns : goal.returns
returns c = let a = c.args in rw c.from.ensures (set_where_law a.on a.w.now a.row a.b c.requires)
