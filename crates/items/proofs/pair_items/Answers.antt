use mathlib.Core.Path.{◌≡◌}
use Prim.Native.Nat.{◌+◌, ◌≤◌}
use native.Mathlib.Omega.{arith}
use lib.ListN.{length}
use Rattle.bits.specs.Work.{next_at}
use Rattle.items.specs.Listed.{voices_in, start_in}
use Rattle.items.proofs.Listing.{items_fit}
use Rattle.items.proofs.Pairs.{rows_more, rows_end}
use Rattle.items.proofs.pair_items.Goals as goal

pub slice_bounds-copy_from_slice-end : goal.slice_bounds-copy_from_slice-end
slice_bounds-copy_from_slice-end c =
    let (n, m, q) = c.requires in
    omega (arith, items_fit q.listed c.args.a q.episode, q.listed.few_items, q.listed.long, c.loop-x.invariant.outside.same_length)

pub loop-x-preserved : goal.loop-x-preserved
loop-x-preserved c =
    let (n, m, q) = c.requires in
    let fit = items_fit q.listed c.args.a q.episode in
    let few = q.listed.few_items in
    let long : next_at ≤ length c.loop-x.w = omega (arith, q.listed.long, c.loop-x.invariant.outside.same_length) in
    rw c.copy_from_slice.ensures.after (rows_more _ (omega arith) (omega arith) (omega arith) (omega arith) long c.loop-x.invariant)

pub returns : goal.returns
returns c = λ n m q.
    let start : c.start_of-start.result ≡ start_in c.args.w.now c.args.a = c.start_of-start.ensures in
    let end : c.loop-x.x ≡ start_in c.args.w.now c.args.a + voices_in c.args.w.now c.args.a = omega arith in
    rows_end q (c.item_row-row.ensures n m q) end (rw start at c.loop-x.invariant)
