use mathlib.Core.Path.{◌≡◌, sym, subst, ◌∙◌}
use mathlib.Core.Bool.{true}
use native.Mathlib.Omega.{arith}
use lib.ListN.{length}
use Rattle.logs.specs.Words.{voices_word}
use Rattle.writing.proofs.Listing.{Listing, listing_none, listing_more, listing_same}
use Rattle.copying.specs.FairCopy.{not_one}
use Rattle.copying.specs.Copying.{said}
use Rattle.copying.proofs.Groups.{passing_room}
use Rattle.copying.proofs.VoicesWords.{length_voices}
use Rattle.copying.proofs.Tables.{listed_voices}
use Rattle.copying.proofs.write_voices.Goals as goal
use Rattle.copying.proofs.write_voices.Goals.{then-has_word, else-has_word}

pub loop-v-init : goal.loop-v-init
loop-v-init c =
    let table = c.args.voices.now in
    listing_none (not_one (said table)) (λ u. voices_word u (said table u)) c.args.out.now (length table) (omega arith)

pub bounds-out-count : goal.bounds-out-count
bounds-out-count c =
    let table = c.args.voices.now in
    let more = passing_room (not_one (said table)) c.loop-v.v (length table) c.loop-v-test.true (sym c.has_word.ensures ∙ c.if-has_word.true) in
    omega (arith, length_voices (said table) (length table), c.loop-v.invariant.size, c.requires.2)

pub loop-v-preserved : goal.loop-v-preserved
loop-v-preserved c =
    let table = c.args.voices.now in
    let at = c.loop-v in
    elim c.if-has_word.branch [
      | then-has_word w ↦
          let other : not_one (said table) at.v ≡ true = sym c.has_word.ensures ∙ w.if-has_word.true in
          let more = passing_room (not_one (said table)) at.v (length table) c.loop-v-test.true other in
          rw (w.count-is, w.out-is, w.word.ensures)
          (listing_more (not_one (said table)) (λ u. voices_word u (said table u)) c.args.out.now at.out (length table) at.count at.v at.invariant
          c.loop-v-test.true (omega (arith, length_voices (said table) (length table), at.invariant.size, c.requires.2)) other)
      | else-has_word w ↦
          rw (w.count-is, w.out-is)
          (listing_same (not_one (said table)) (λ u. voices_word u (said table u)) c.args.out.now at.out (length table) at.count at.v at.invariant
          c.loop-v-test.true (sym c.has_word.ensures ∙ w.if-has_word.false))
    ]

pub returns : goal.returns
returns c =
    let table = c.args.voices.now in
    let at = c.loop-v in
    let end : at.v ≡ length table = omega arith in
    listed_voices (said table) (length table)
    (subst (Listing (not_one (said table)) (λ u. voices_word u (said table u)) c.args.out.now at.out (length table) at.count) end at.invariant)
