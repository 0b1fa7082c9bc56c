use mathlib.Core.Path.{◌≡◌}
use native.Mathlib.Omega.{arith}
use Rattle.items.proofs.Listing.{listing_none, listing_room, listing_more, listing_end}
use Rattle.items.proofs.list_all.Goals as goal

pub loop-v-init : goal.loop-v-init
loop-v-init c = listing_none c.args.w.now

pub add-m-requires : goal.add-m-requires
add-m-requires c =
    let p = c.requires in
    (omega (arith, c.loop-v.invariant.outside.same_length), omega arith, listing_room c.loop-v.invariant p.1 p.2 (omega arith))

pub loop-v-preserved : goal.loop-v-preserved
loop-v-preserved c =
    let p = c.requires in
    listing_more c.loop-v.invariant p.1 p.2 (omega arith) c.add-m.ensures

pub returns-clause-listed : goal.returns-clause-listed
returns-clause-listed c =
    let p = c.requires in
    let e : c.loop-v.v ≡ c.args.n = omega arith in
    listing_end p.0 p.1 p.2 (rw e at c.loop-v.invariant)
