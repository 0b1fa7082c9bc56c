use native.Mathlib.Omega.{arith}
use Rattle.bits.proofs.Rows.{row_added}
use Rattle.bits.proofs.join.Goals as goal

pub returns : goal.returns
returns c = row_added c.loop-i.invariant (omega arith)
