use mathlib.Core.Path.{sym}
use native.Mathlib.Omega.{arith}
use Rattle.writing.proofs.Walks.{loop_next, loop_room, walk_first, walk_fits, walk_more, walk_done}
use Rattle.writing.proofs.write_loop.Goals as goal

pub bounds-out-1 : goal.bounds-out-1
bounds-out-1 c = loop_room c.requires.2 _ c.requires.3

pub loop-next-init : goal.loop-next-init
loop-next-init c = rw c.word.ensures (walk_first c.requires.2 c.args.out.now c.requires.3)

pub bounds-out-count : goal.bounds-out-count
bounds-out-count c = walk_fits c.loop-next.invariant (sym c.in-Some.ensures) c.if-next-v.true

pub loop-next-preserved : goal.loop-next-preserved
loop-next-preserved c = rw c.word-in-loop-next.ensures (walk_more c.loop-next.invariant (sym c.in-Some.ensures) c.if-next-v.true)

pub returns : goal.returns
returns c =
    let s = c.loop-next.invariant in
    let next = loop_next s.looping c.loop-next.at s.below in
    rw c.word-2.ensures (walk_done c.word.result s (grind arith))
