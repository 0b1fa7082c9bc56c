-- `bits::join_into` meets its contract: a row by itself has the bits that it has in the matrix.
-- Assumes nothing.
use native.Mathlib.Omega.{arith}
use Rattle.bits.proofs.Parts.{row_added}
use Rattle.bits.proofs.join_into.Goals as goal

pub returns : goal.returns
returns c = row_added c.args.w.now _ (omega arith) c.join.ensures
