use mathlib.Core.Path.{refl}
use native.Mathlib.Omega.{arith}
use Rattle.std.proofs.lemmas.Bool.{eqb-true, not-false}
use Rattle.bits.proofs.Joins.{gathered_none, gathered_more, gathered_end}
use Rattle.bits.proofs.any.Goals as goal

pub loop-word-init : goal.loop-word-init
loop-word-init c = gathered_none c.args.v.now 0

pub loop-word-preserved : goal.loop-word-preserved
loop-word-preserved c = gathered_more c.args.v.now c.loop-word.word-index c.loop-word.all _ refl c.loop-word.invariant

pub returns : goal.returns
returns c = λ e. gathered_end c.args.v.now (omega arith) (eqb-true c.loop-word.all 0 (not-false _ e)) c.loop-word.invariant
