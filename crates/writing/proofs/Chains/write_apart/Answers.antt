use mathlib.Core.Path.{sym, ◌∙◌}
use Prim.Native.Nat.{◌+◌}
use native.Mathlib.Omega.{arith}
use Rattle.logs.specs.Words.{word}
use Rattle.items.specs.Listed.{voices_in}
use Rattle.writing.specs.Writing.{apart_test}
use Rattle.writing.proofs.Listing.{listing_none, listing_more, listing_same}
use Rattle.writing.proofs.Widths.{width_none, width_more, width_same, counted, not_counted}
use Rattle.writing.proofs.Solved.{test_voiced, width_few}
use Rattle.writing.proofs.Chains.write_apart.Goals as goal
use Rattle.writing.proofs.Chains.write_apart.Goals.{then-voices-ne0, else-voices-ne0}

pub loop-v-init : goal.loop-v-init
loop-v-init c =
    let a = c.args in
    let w = a.self.now.words.now in
    (listing_none (apart_test w) (word 5) a.out.now a.self.now.episodes (omega arith), sym (width_none (voices_in w) (apart_test w)))

-- the voices up to `v` are at most as many as there are items
pub overflow_add-width : goal.overflow_add-width
overflow_add-width c =
    let chains = c.args.self.now in
    let w = chains.words.now in
    let at = c.loop-v in
    let (test, voices) = counted (voices_in w) (apart_test w) at.v c.apart_voices-voices.result c.apart_voices-voices.ensures c.if-voices-ne0.true in
    omega (
      arith,
      at.invariant.1,
      width_more (voices_in w) (apart_test w) at.v test,
      width_few chains.solved (at.v + 1) (omega arith),
      chains.few_items,
    )

pub loop-v-preserved : goal.loop-v-preserved
loop-v-preserved c =
    let chains = c.args.self.now in
    let w = chains.words.now in
    let at = c.loop-v in
    let r = c.apart_voices-voices.result in
    elim c.if-voices-ne0.branch [
      | then-voices-ne0 p ↦
          let (test, voices) = counted (voices_in w) (apart_test w) at.v r c.apart_voices-voices.ensures p.if-voices-ne0.true in
          rw (p.count-is, p.out-is, p.width-is, p.word.ensures) (
            listing_more (apart_test w) (word 5) c.args.out.now at.out chains.episodes at.count at.v at.invariant.0 (omega arith)
                (omega (arith, at.invariant.0.few)) test,
            sym (width_more (voices_in w) (apart_test w) at.v test ∙ omega (arith, at.invariant.1)),
          )
      | else-voices-ne0 p ↦
          let test = not_counted (voices_in w) (apart_test w) at.v r (test_voiced w at.v) c.apart_voices-voices.ensures (omega (arith, p.if-voices-ne0.false)) in
          rw (p.count-is, p.out-is, p.width-is) (
            listing_same (apart_test w) (word 5) c.args.out.now at.out chains.episodes at.count at.v at.invariant.0 (omega arith) test,
            at.invariant.1 ∙ sym (width_same (voices_in w) (apart_test w) at.v test),
          )
    ]

pub word-requires-2 : goal.word-requires-2
word-requires-2 c =
    let chains = c.args.self.now in
    omega (arith, c.loop-v.invariant.1, width_few chains.solved c.loop-v.v c.loop-v.invariant.0.item, chains.few_items)
