use mathlib.Core.Path.{refl}
use native.Mathlib.Omega.{arith}
use Rattle.bits.specs.Work.{ways_at}
use Rattle.rising.proofs.Rising.{row_next, row_on, row_end}
use Rattle.rising.proofs.reach_row.Goals as goal

pub loop-b-preserved : goal.loop-b-preserved
loop-b-preserved c =
    let n = c.in-Some.ensures.first in
    let below = c.in-Some.ensures.below in
    row_on c.requires below (row_next c.requires c.loop-b.invariant n) (n.new below).0 c.set_bit.ensures
    (c.join_row.ensures ways_at c.args.a c.in-Some.b refl refl)

pub returns : goal.returns
returns c =
    row_end c.requires (c.take_ends.ensures c.args.a refl refl) (omega arith)
    (row_next c.requires c.loop-b.invariant (rw c.in_default.is at c.next_new.ensures.first))
