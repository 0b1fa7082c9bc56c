-- `bits::copy_row` meets its contract: a row by itself has the bits that it has in the matrix.
-- Assumes nothing.
use native.Mathlib.Omega.{arith}
use Rattle.bits.proofs.Parts.{row_copied}
use Rattle.bits.proofs.copy_row.Goals as goal

pub returns : goal.returns
returns c =
    let a = c.args in
    row_copied a.w.now _ (omega arith) a.to _ c.requires.0 (rw c.copy_from_slice.ensures.after c.row_at-row.ensures)
