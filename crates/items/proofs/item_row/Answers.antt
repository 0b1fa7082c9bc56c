use mathlib.Core.Path.{◌≡◌, ◌∙◌}
use Prim.Native.Nat.{◌+◌, ◌-◌, ◌*◌}
use native.Mathlib.Omega.{arith}
use lib.ListN.{get_or, take, drop, get_or-replicate}
use lib.Seq.{get_or-take, get_or-drop}
use Rattle.bits.specs.Work.{ways_at}
use Rattle.items.proofs.Rows.{collect_none, collect_more, collect_end}
use Rattle.items.proofs.item_row.Goals as goal

pub loop-i-init : goal.loop-i-init
loop-i-init c =
    let a = c.args in
    collect_none a.w.now a.masks.now a.a _ (λ i h. get_or-replicate 8 i 0 0 h)

pub loop-i-preserved : goal.loop-i-preserved
loop-i-preserved c =
    let w = c.args.w.now in
    let at = ways_at + 8 * c.args.a in
    let i = c.loop-i.i in
    let word : get_or (take (at + 8 - at) (drop at w)) i 0 ≡ get_or w (at + i) 0 =
    get_or-take (at + 8 - at) (drop at w) i 0 (omega arith) ∙ get_or-drop at w i 0 in
    collect_more (omega arith) c.loop-i.invariant word c.join_rows.ensures

pub returns : goal.returns
returns c = λ n m q. collect_end (omega arith) c.loop-i.invariant q
