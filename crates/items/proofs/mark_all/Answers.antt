use native.Mathlib.Omega.{arith}
use Rattle.items.proofs.Listing.{items_fit}
use Rattle.items.proofs.Rows.{marked_none, marked_more, marked_end}
use Rattle.items.proofs.mark_all.Goals as goal

pub loop-b-init : goal.loop-b-init
loop-b-init c = λ m l. marked_none c.args.w.now m c.args.masks.now c.requires.1

pub mark_items-requires : goal.mark_items-requires
mark_items-requires c =
    let (m, l) = c.requires.0 in
    let few = l.few in
    (l.long, omega arith, omega (arith, items_fit l c.loop-b.b (omega arith), l.few_items))

pub loop-b-preserved : goal.loop-b-preserved
loop-b-preserved c = λ m l. marked_more l (omega arith) (c.loop-b.invariant m l) c.mark_items.ensures

pub returns : goal.returns
returns c = λ m l. marked_end (omega arith) (c.loop-b.invariant m l)
