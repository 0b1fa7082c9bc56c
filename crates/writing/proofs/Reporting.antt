-- A whole report: the apart set, the threads behind it and the end, and that they fit.
use mathlib.Core.Path.{◌≡◌, sym, ap, subst, ◌∙◌}
use mathlib.Core.Logic.{⊎_elim}
use mathlib.Core.List.{List, [], ◌∷◌, ◌++◌, map}
use Prim.Native.Nat.{ℕ, zero, suc, ◌+◌, ◌-◌, ◌*◌, ◌/◌, ◌^◌, ◌≤◌, ◌<◌}
use native.Mathlib.Nat.{add-mul, mul-add, mul-le-mul, mul-le-mul_right}
use native.Mathlib.Omega.{arith}
use lib.ListN.{length, set, take, drop, length-append, length-drop, length-map}
use Rattle.paths.specs.Graph.{Graph, Episode, Apart, weight}
use Rattle.paths.specs.Items.{by_voices}
use Rattle.paths.specs.OneVoice.{OneVoice}
use Rattle.paths.proofs.Fits.{product_le, weight_few}
use Rattle.paths.proofs.Numbers.{nodup_below}
use Rattle.paths.proofs.OneVoice.{one_weight}
use Rattle.paths.proofs.Passing.{length_passing}
use Rattle.logs.specs.Words.{word}
use Rattle.searching.specs.Items.{member_test, members}
use Rattle.searching.specs.State.{tables}
use Rattle.chains.proofs.Threads.{threads_length}
use Rattle.items.specs.Listed.{voices_in}
use Rattle.writing.specs.Layout.{BeginsWith, threads_words, ended, report_words, report_need}
use Rattle.writing.specs.Writing.{Solved, apart_test, apart_in, ReportRoom, ApartWritten, ThreadsWritten, ReportWritten}
use Rattle.writing.proofs.Buffers.{length_snoc, begins_length, begins_more, begins_part, lent_part, lent_rest}
use Rattle.writing.proofs.Solved.{solved_furthest, solved_weight, solved_width}
use Rattle.writing.proofs.Bundling.{threads_need, thread_need}

-- the words of `s` threads with at most `n + 2 - s` words each
room_of : (s n : ℕ) → s ≤ n → s * (n + 2 - s) ≤ s + (n + 1) * (n + 1) / 4
room_of s n h =
    let p : s * (n + 1 - s) ≤ (n + 1) * (n + 1) / 4 = product_le s (n + 1) (omega arith) in
    let e : n + 2 - s ≡ 1 + (n + 1 - s) = omega arith in
    let m = mul-add s 1 (n + 1 - s) in
    rw e (omega arith)

-- the width, the apart set, the threads' words and the end
pub report_room : {g : Graph} {k : ℕ} (s : List ℕ) → Apart g s → ReportRoom g k → 1 + length s + weight g s * (g.n + 2 - length s) + 1 ≤ k
report_room {g} {k} s apart room = ⊎_elim one two room
  where
    le : length s ≤ g.n
    le = nodup_below g.n s apart.antichain.once apart.episodes

    one : OneVoice g × (report_need g.n 0 ≤ k) → 1 + length s + weight g s * (g.n + 2 - length s) + 1 ≤ k
    one (voices, enough) = rw (one_weight g voices s apart.episodes) (omega (arith, le, enough, room_of (length s) g.n le))

    two : ((v : ℕ) → Episode g v → g.voices v ≤ 2) × (report_need g.n 1 ≤ k) → 1 + length s + weight g s * (g.n + 2 - length s) + 1 ≤ k
    two (voices, enough) =
        let few : weight g s ≤ length s + length s = weight_few g s voices apart.episodes in
        let more : weight g s * (g.n + 2 - length s) ≤ (length s + length s) * (g.n + 2 - length s) = mul-le-mul_right (g.n + 2 - length s) few in
        let parts = add-mul (length s) (length s) (g.n + 2 - length s) in
        omega (arith, le, enough, room_of (length s) g.n le)

-- they are few
pub report_few : (n v : ℕ) → n < 256 → report_need n v < 40000
report_few n v h = go v
  where
    square : (n + 1) * (n + 1) ≤ 256 * 256
    square = mul-le-mul {n₁ = n + 1} {m₁ = n + 1} {n₂ = 256} {m₂ = 256} (omega arith) (omega arith)

    go : (v : ℕ) → report_need n v < 40000
    go zero = omega (arith, square)
    go (suc v) = omega (arith, square)

module _ {w : List ℕ} {n : ℕ} {o o₁ : List ℕ} {k : ℕ} (a : ApartWritten w o o₁ n k) where
  -- the words of the apart set
  abbrev front : List ℕ
  front = word 4 (length (by_voices (voices_in w) (apart_in w n))) ∷ map (word 5) (apart_in w n)

  length_front : length front ≡ k + 1
  length_front = let e = length-map (apart_in w n) (word 5) in let f = a.size in omega arith

  apart_length : length o₁ ≡ length o
  apart_length = begins_length front o o₁ a.words

  pub apart_le : k ≤ n
  apart_le = let e = a.size in let le = length_passing (apart_test w) n in omega arith

  module _ {g : Graph} {m : ℕ} (q : Solved g n m w) (room : ReportRoom g (length o)) where
    -- the room that there is
    pub room_left : 1 + k + length (members (tables w) m) * (n + 2 - length (apart_in w n)) + 1 ≤ length o
    room_left =
        let r = report_room (apart_in w n) (solved_furthest q).apart room in
        rw (a.size, ← solved_weight q)
        (subst (λ (x : ℕ). 1 + length (apart_in w n) + weight g (apart_in w n) * (x + 2 - length (apart_in w n)) + 1 ≤ length o) q.count r)

    -- there is room for the threads
    pub threads_room : length (members (tables w) m) * (n + 2 - length (apart_in w n))
        ≤ length (take (length o₁ - (k + 1)) (drop (k + 1) o₁))
    threads_room =
        let e = apart_length in
        let d = length-drop (k + 1) o₁ in
        let r = room_left in
        rw (lent_part o₁ (k + 1)) (omega arith)

  module _ {m : ℕ} {p : List ℕ} {r : ℕ} (t : ThreadsWritten w (take (length o₁ - (k + 1)) (drop (k + 1) o₁)) p n m r) where
    -- the end has room behind them
    pub end_lt : {g : Graph} → Solved g n m w → ReportRoom g (length o) → k + 1 + r < length o
    end_lt {g} q room =
        let s = room_left q room in
        let h = threads_need q (tables w).next (members (tables w) m) t.threads (t.of g q) in
        let e = t.size in
        omega arith

    -- and stands at a small place
    pub end_few : {g : Graph} → Solved g n m w → k + 1 + r < 2 ^ 28
    end_few {g} q =
        let h = threads_need q (tables w).next (members (tables w) m) t.threads (t.of g q) in
        let e = t.size in
        let le = apart_le in
        let few = length_passing (member_test (tables w)) m in
        let f = q.few in
        let i = q.few_items in
        let b : length (members (tables w) m) * thread_need w n ≤ 256 * 258 =
        mul-le-mul {n₁ = length (members (tables w) m)} {m₁ = thread_need w n} {n₂ = 256} {m₂ = 258} (omega arith) (omega arith) in
        omega arith

    -- the buffer, as the part that was lent has come back
    abbrev whole : List ℕ
    whole = take (k + 1) o₁ ++ (p ++ drop (length o₁ - (k + 1)) (drop (k + 1) o₁))

    before_end : BeginsWith (front ++ threads_words t.threads) o whole
    before_end =
        rw (lent_rest o₁ p (k + 1))
        (begins_part front o o₁ a.words (threads_words t.threads) p (k + 1) (sym length_front)
        (subst (λ (l : List ℕ). BeginsWith (threads_words t.threads) l p) (lent_part o₁ (k + 1)) t.words))

    count : length (front ++ threads_words t.threads) ≡ k + 1 + r
    count =
        let e = length-append front (threads_words t.threads) in
        let f = length_front in
        let h = t.size in
        omega arith

    pub whole_length : length whole ≡ length o
    whole_length = begins_length (front ++ threads_words t.threads) o whole before_end

    -- with the end they are the report's
    words_are : length (by_voices (voices_in w) (apart_in w n)) ≡ length t.threads
        → front ++ threads_words t.threads ++ (word 15 (k + 1 + r) ∷ []) ≡ report_words (apart_in w n) t.threads
    unfolding report_words ended
    words_are width =
        ap (λ (x : ℕ). front ++ threads_words t.threads ++ (word 15 x ∷ [])) (sym count)
        ∙ ap (λ (x : ℕ). ended (word 4 x ∷ map (word 5) (apart_in w n) ++ threads_words t.threads)) width

    pub report_written : {g : Graph} → Solved g n m w → k + 1 + r < length o
        → ReportWritten w o (set whole (k + 1 + r) (word 15 (k + 1 + r))) n m (k + 1 + r + 1)
    report_written {g} q lt =
        let width : length (by_voices (voices_in w) (apart_in w n)) ≡ length t.threads =
        solved_width q ∙ sym (threads_length g (tables w).next (members (tables w) m) t.threads (t.of g q)) in
        record {
          threads = t.threads;
          size =
              let e = ap length (words_are width) in
              let f = length_snoc (front ++ threads_words t.threads) (word 15 (k + 1 + r)) in
              let h = count in
              omega arith;
          words =
              subst (λ (ws : List ℕ). BeginsWith ws o (set whole (k + 1 + r) (word 15 (k + 1 + r)))) (words_are width)
              (begins_more (front ++ threads_words t.threads) o whole before_end (k + 1 + r) (word 15 (k + 1 + r)) (sym count) lt);
          of = t.of;
        }
