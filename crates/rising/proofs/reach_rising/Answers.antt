use mathlib.Core.Path.{refl, ◌∙◌}
use Prim.Native.Nat.{◌-◌}
use native.Mathlib.Omega.{arith}
use Rattle.std.specs.Array.{IsFirstChunk}
use Rattle.bits.specs.Work.{items_at}
use Rattle.rising.proofs.Rising.{rising_start, rising_row, rising_end}
use Rattle.rising.proofs.Front.{word_front, rising_all}
use Rattle.rising.proofs.reach_rising.Goals as goal

pub loop-a-init : goal.loop-a-init
loop-a-init c =
    let front : IsFirstChunk _ _ items_at = rw c.unwrap-front.ensures at c.first_chunk_mut.ensures.cases in
    rising_start c.unwrap-front.result.now _ c.args.n refl (λ i lo hi. word_front front i hi ∙ c.requires.2 i lo hi)

pub loop-a-preserved : goal.loop-a-preserved
loop-a-preserved c =
    let a = c.args in
    rising_row c.unwrap-front.result.now c.loop-a.front c.reach_row.new.w c.loop-a.linked c.note_linked.new.linked a.n c.loop-a.a
    (c.loop-a.a - 1) (omega arith) (omega arith) c.loop-a.invariant c.reach_row.ensures c.note_linked.ensures

pub returns : goal.returns
returns c =
    let front : IsFirstChunk _ _ items_at = rw c.unwrap-front.ensures at c.first_chunk_mut.ensures.cases in
    rising_all front (rising_end c.unwrap-front.result.now c.loop-a.front c.loop-a.linked c.args.n c.loop-a.a (omega arith) c.loop-a.invariant)
