use native.Mathlib.Omega.{arith}
use Rattle.chains.proofs.Joining.{joining_more, joining_end}
use Rattle.chains.proofs.extend_all.Goals as goal

pub loop-from-preserved : goal.loop-from-preserved
loop-from-preserved c = joining_more c.requires c.loop-from.invariant c.extend.ensures

pub returns : goal.returns
returns c = joining_end c.requires c.loop-from.invariant (omega arith)
