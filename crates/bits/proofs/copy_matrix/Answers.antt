use native.Mathlib.Omega.{arith}
use Rattle.bits.proofs.Matrices.{copying_none, copying_more, copying_all}
use Rattle.bits.proofs.copy_matrix.Goals as goal

pub loop-i-init : goal.loop-i-init
loop-i-init c = copying_none c.args.w.now c.args.from c.args.to

pub loop-i-preserved : goal.loop-i-preserved
loop-i-preserved c = copying_more c.loop-i.invariant c.requires.0 c.requires.1 (omega arith)

pub returns : goal.returns
returns c = copying_all c.loop-i.invariant (omega arith)
