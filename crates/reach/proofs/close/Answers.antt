use native.Mathlib.Omega.{arith}
use Rattle.reach.proofs.Rounds.{closure_start, closure_end}
use Rattle.reach.proofs.close.Goals as goal

pub loop-k-init : goal.loop-k-init
loop-k-init c = closure_start c.args.w.now c.args.n

pub returns : goal.returns
returns c =
    let a = c.args in
    let at = c.loop-k in
    closure_end a.w.now at.w a.n at.k (omega arith) at.invariant
