use mathlib.Core.Path.{sym}
use native.Mathlib.Omega.{arith}
use lib.ListN.{length-set}
use Rattle.writing.proofs.Solved.{owner_lt}
use Rattle.writing.proofs.Filling.{
  starts_room,
  filling_starts,
  at_lt,
  filling_le,
  filling_room,
  next_way,
  filling_more,
  filling_less,
  filling_ends,
  written_over,
}
use Rattle.writing.proofs.Chains.write_thread.Goals as goal

-- The owner of the chain's first item is an episode, so there is room for it.
pub bounds-out-1 : goal.bounds-out-1
bounds-out-1 c =
    let chains = c.args.self.now in
    let below = c.start_of-item.ensures.below chains.items chains.matching c.requires.0 in
    starts_room c.args.out.now below c.owner_of-at.ensures chains.solved c.requires.1

pub word-requires : goal.word-requires
word-requires c =
    let chains = c.args.self.now in
    let below = c.start_of-item.ensures.below chains.items chains.matching c.requires.0 in
    omega (arith, chains.few, owner_lt chains.solved c.start_of-item.result below)

pub loop-next-init : goal.loop-next-init
loop-next-init c =
    let chains = c.args.self.now in
    let below = c.start_of-item.ensures.below chains.items chains.matching c.requires.0 in
    rw c.word.ensures
    (filling_starts c.args.out.now below c.owner_of-at.ensures chains.solved c.start_of-item.ensures
    (starts_room c.args.out.now below c.owner_of-at.ensures chains.solved c.requires.1))

pub write_path-count-requires : goal.write_path-count-requires
write_path-count-requires c =
    let chains = c.args.self.now in
    let f = c.loop-next.invariant in
    let to_way = next_way f c.in-Some.next (sym c.in-Some.ensures) c.owner_of-to.ensures chains.matching chains.solved in
    let len = length-set c.args.out.now 1 c.word.result in (
      at_lt f chains.solved,
      to_way.0,
      to_way.1,
      λ g q. filling_room f q (λ th t. let h = c.requires.1 g q th t in omega arith),
    )

pub loop-next-smaller : goal.loop-next-smaller
loop-next-smaller c =
    let chains = c.args.self.now in
    let (more, le) =
    filling_less c.loop-next.invariant c.in-Some.next (sym c.in-Some.ensures) c.owner_of-to.ensures chains.matching chains.solved
    c.write_path-count.ensures in
    omega arith

pub loop-next-preserved : goal.loop-next-preserved
loop-next-preserved c =
    filling_more c.loop-next.invariant c.in-Some.next (sym c.in-Some.ensures) c.owner_of-to.ensures c.args.self.now.matching
    c.write_path-count.ensures

-- at the end the words are few
pub word-requires-2 : goal.word-requires-2
word-requires-2 c = omega (arith, c.args.self.now.few, filling_le c.loop-next.invariant c.args.self.now.solved)

pub returns : goal.returns
returns c =
    let f = c.loop-next.invariant in
    let size = f.size in
    rw c.word-2.ensures (written_over c.word.result (omega arith) (filling_ends f (sym c.in_default.ensures)))
