use native.Mathlib.Omega.{arith}
use Rattle.chains.proofs.Pairs.{pair_asked, paired_more}
use Rattle.chains.proofs.first_pairs.Goals as goal

pub pair-requires : goal.pair-requires
pair-requires c = pair_asked c.requires.0 c.loop-a.invariant (omega arith)

pub loop-a-preserved : goal.loop-a-preserved
loop-a-preserved c = paired_more c.requires.0 c.loop-a.invariant c.pair.ensures
