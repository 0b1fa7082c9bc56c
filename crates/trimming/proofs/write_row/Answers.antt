use mathlib.Core.Path.{◌≡◌, subst}
use Prim.Native.Nat.{ℕ, ◌+◌, ◌*◌}
use native.Mathlib.Omega.{arith}
use Rattle.writing.proofs.Listing.{Listing, listing_none}
use Rattle.trimming.specs.Trimming.{kept_at, to_unpaused}
use Rattle.trimming.proofs.Rows.{word_tells}
use Rattle.trimming.proofs.write_row.Goals as goal

pub loop-i-init : goal.loop-i-init
loop-i-init c = λ a p. listing_none (kept_at c.args.w.now a c.args.implied.now) to_unpaused c.args.out.now 256 (omega arith)

pub write_word-links-requires : goal.write_word-links-requires
write_word-links-requires c =
    let (a, p, room) = c.requires.1 in
    let tells = word_tells a c.loop-i.i c.row_without.ensures p (omega arith) in
    ((kept_at c.args.w.now a c.args.implied.now, c.args.out.now, tells, c.loop-i.invariant a p, room), omega arith)

pub loop-i-preserved : goal.loop-i-preserved
loop-i-preserved c =
    λ a p.
    let (a', p', room) = c.requires.1 in
    let same : a' ≡ a = omega arith in
    let written = c.write_word-links in
    let next : 32 * c.loop-i.i + 32 ≡ 32 * (c.loop-i.i + 1) = omega arith in
    subst (λ (v : ℕ). Listing (kept_at c.args.w.now a c.args.implied.now) to_unpaused c.args.out.now written.new.out 256 written.result v) next
    (written.ensures (kept_at c.args.w.now a c.args.implied.now) c.args.out.now (word_tells a c.loop-i.i c.row_without.ensures p (omega arith))
    (c.loop-i.invariant a p) (rw same at room))
