use native.Mathlib.Omega.{arith}
use Rattle.bits.proofs.Joins.{taking_start, taking_on, taking_end}
use Rattle.bits.proofs.join_rows.Goals as goal

pub loop-i-init : goal.loop-i-init
loop-i-init c =
    let a = c.args in
    (tt, tt, rw (c.into_iter-i-iterator.ensures.into_iter_gives, c.ones_of-i-items.ensures) (taking_start a.w.now a.base a.x a.v.now))

pub loop-i-preserved : goal.loop-i-preserved
loop-i-preserved c = (tt, tt, taking_on c.loop-i.invariant.2 c.in-Some.ensures.steps (omega arith) c.join_into.ensures)

pub returns : goal.returns
returns c = taking_end c.loop-i.invariant.2 c.in-None.ensures.steps.0
