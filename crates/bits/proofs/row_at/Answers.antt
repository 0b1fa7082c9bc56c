-- `bits::row_at` meets its contract: a row by itself has the bits that it has in the matrix.
-- Assumes nothing.
use native.Mathlib.Omega.{arith}
use Rattle.bits.proofs.Parts.{row_taken}
use Rattle.bits.proofs.row_at.Goals as goal

pub returns : goal.returns
returns c = row_taken c.args.w.now _ (omega arith) c.requires c.copy_from_slice.ensures.after
