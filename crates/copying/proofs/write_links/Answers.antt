use mathlib.Core.Path.{◌≡◌, ap, ◌∙◌}
use native.Mathlib.Omega.{arith}
use lib.ListN.{length}
use Rattle.logs.specs.Words.{to_word}
use Rattle.writing.proofs.Listing.{listing_none, listing_more, listing_same}
use Rattle.copying.specs.Copying.{marked_at, pause_at}
use Rattle.copying.proofs.Groups.{is_marked, not_marked, marked_room}
use Rattle.copying.proofs.write_links.Goals as goal
use Rattle.copying.proofs.write_links.Goals.{in-Some, in_default}

pub loop-b-init : goal.loop-b-init
loop-b-init c =
    let row = c.args.row.now in
    listing_none (marked_at row) (λ b. to_word b (pause_at row b)) c.args.out.now (length row) (omega arith)

pub bounds-out-links : goal.bounds-out-links
bounds-out-links c =
    let a = c.args in
    let more = marked_room a.row.now c.loop-b.b (omega arith) (λ e. omega arith) in
    omega arith

pub loop-b-preserved : goal.loop-b-preserved
loop-b-preserved c =
    let a = c.args in
    let at = c.loop-b in
    let row = a.row.now in
    elim c.match-checked_sub.branch [
      | in-Some p ↦
          let marked = is_marked row at.b (λ e. omega (arith, p.in-Some.ensures)) in
          let more = marked_room row at.b (omega arith) (λ e. omega (arith, p.in-Some.ensures)) in
          let written : p.word.result ≡ to_word at.b (pause_at row at.b) = p.word.ensures ∙ ap (to_word at.b) p.in-Some.ensures.1 in
          rw (p.links-is, p.out-is, written)
          (listing_more (marked_at row) (λ b. to_word b (pause_at row b)) a.out.now at.out (length row) at.links at.b at.invariant (omega arith)
          (omega (arith, at.invariant.size)) marked)
      | in_default p ↦
          rw (p.links-is, p.out-is)
          (listing_same (marked_at row) (λ b. to_word b (pause_at row b)) a.out.now at.out (length row) at.links at.b at.invariant (omega arith)
          (not_marked row at.b (omega (arith, p.in_default.ensures))))
    ]
