-- `text::put_refusal` meets its contract: the words and the figures, one behind the other, and the newline.
-- Assumes nothing.
use Rattle.std.proofs.Common.{[], ◌∷◌, ◌++◌, ℕ, ◌^◌, ◌<◌, ◌≤◌, length, codes, arith}
use Rattle.std.proofs.lemmas.List.{length-append}
use Rattle.text.specs.Text.{figure, refusal_text, refusal_bytes}
use Rattle.text.proofs.Room.{refusal_length}
use Rattle.text.proofs.Puts.{put_length, put_both, put_ended, room_front, room_behind}
use Rattle.text.proofs.put_refusal.Goals as goal

-- the parts in front have room
record Fits (q p k : ℕ) : Type 0 where
  five : length (refusal_text q p) ≤ k
  four : length (codes "refused" ++ figure q ++ codes " at" ++ figure p) ≤ k
  three : length (codes "refused" ++ figure q ++ codes " at") ≤ k
  two : length (codes "refused" ++ figure q) ≤ k

fits : (q p k : ℕ) → q < 2 ^ 32 → p < 2 ^ 64 → refusal_bytes ≤ k → Fits q p k
unfolding refusal_text
fits q p k few small enough =
    let five : length (refusal_text q p) ≤ k = omega (arith, refusal_length q p few small, enough) in
    let four = room_front (codes "refused" ++ figure q ++ codes " at" ++ figure p) (10 ∷ []) five in
    let three = room_front (codes "refused" ++ figure q ++ codes " at") (figure p) four in
    record { five = five; four = four; three = three; two = room_front (codes "refused" ++ figure q) (codes " at") three }

pub put-at-requires : goal.put-at-requires
put-at-requires c =
    let f = fits c.args.number c.args.place _ (omega (arith, c.ranges.number)) (omega (arith, c.ranges.place)) c.requires in
    room_front (codes "refused") (figure c.args.number) f.two

pub put_figure-at-requires : goal.put_figure-at-requires
put_figure-at-requires c =
    let f = fits c.args.number c.args.place _ (omega (arith, c.ranges.number)) (omega (arith, c.ranges.place)) c.requires in
    room_behind c.put-at.ensures (figure c.args.number) f.two

pub put-at-requires-2 : goal.put-at-requires-2
put-at-requires-2 c =
    let f = fits c.args.number c.args.place _ (omega (arith, c.ranges.number)) (omega (arith, c.ranges.place)) c.requires in
    room_behind (put_both c.put-at.ensures c.put_figure-at.ensures) (codes " at") f.three

pub put_figure-at-requires-2 : goal.put_figure-at-requires-2
put_figure-at-requires-2 c =
    let f = fits c.args.number c.args.place _ (omega (arith, c.ranges.number)) (omega (arith, c.ranges.place)) c.requires in
    room_behind (put_both (put_both c.put-at.ensures c.put_figure-at.ensures) c.put-at-2.ensures) (figure c.args.place) f.four

pub bounds-text-at : goal.bounds-text-at
unfolding refusal_text
bounds-text-at c =
    let f = fits c.args.number c.args.place _ (omega (arith, c.ranges.number)) (omega (arith, c.ranges.place)) c.requires in
    let all = put_both (put_both (put_both c.put-at.ensures c.put_figure-at.ensures) c.put-at-2.ensures) c.put_figure-at-2.ensures in
    let size = all.size in
    let same = put_length all in
    let whole = length-append (codes "refused" ++ figure c.args.number ++ codes " at" ++ figure c.args.place) (10 ∷ []) in
    omega (arith, f.five)

pub returns : goal.returns
unfolding refusal_text
returns c =
    let f = fits c.args.number c.args.place _ (omega (arith, c.ranges.number)) (omega (arith, c.ranges.place)) c.requires in
    let three = put_both (put_both c.put-at.ensures c.put_figure-at.ensures) c.put-at-2.ensures in
    put_ended 10 three c.put_figure-at-2.ensures f.five
