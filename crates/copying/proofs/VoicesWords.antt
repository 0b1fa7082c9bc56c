-- The voices words of a copy: how many there are, and the voices that they tell.
use mathlib.Core.Path.{◌≡◌, refl, sym, ap, ◌∙◌}
use mathlib.Core.Logic.{◌≢◌, ◌↔◌}
use mathlib.Core.Bool.{true, false, true≢false}
use mathlib.Core.List.Memᴰ
use mathlib.Core.List.Memᴰ.{head as here}
use mathlib.Core.List.Memᴰ.{tail as there}
use mathlib.Core.List.{
  List,
  [],
  ◌∷◌,
  ◌++◌,
  map,
  map-map,
  map-id,
  map_congr_left,
  Memᴰ as Mem,
  Nodup,
}
use Prim.Native.Nat.{ℕ, ◌<◌, ◌≤◌, ◌^◌}
use native.Mathlib.Decide.{ℕ_discrete}
use native.Mathlib.Nat.{ℕ_set}
use native.Mathlib.Omega.{arith}
use lib.ListN.{length, length-map}
use borrow.Author.Tests.{eq-eqb, ne_eqb}
use Rattle.order.specs.Order.{All}
use Rattle.paths.specs.Graph.{Rising}
use Rattle.paths.specs.Passing.{passing}
use Rattle.paths.proofs.Passing.{passing_below, passing_test, test_passing, passing_rising, passing_nodup, passing_equal}
use Rattle.logs.specs.Words.{kind, voices_word}
use Rattle.logs.specs.Log.{most_with_voices, most_voices, heard_from, marks_of, voices_by}
use Rattle.logs.proofs.Links.{heard_voices}
use Rattle.logs.proofs.Marks.{marks_nil, marks_voices, voices_unmarked, voices_marked}
use Rattle.logs.proofs.Voices.{MarksTaken}
use Rattle.logs.proofs.Words.{voices_kind, voices_episode_lem, voices_given_lem}
use Rattle.copying.specs.FairCopy.{not_one, voices_words}

-- the episodes below `k` with other voices than one
abbrev pub others : (ℕ → ℕ) → ℕ → List ℕ
others voices k = passing (not_one voices) k

-- an episode with its voices: the mark that its voices word gives
abbrev pub marked_with : (ℕ → ℕ) → ℕ → ℕ × ℕ
marked_with voices v = (v, voices v)

-- the voices words of some episodes
abbrev pub words_of : (ℕ → ℕ) → List ℕ → List ℕ
words_of voices vs = map (λ (v : ℕ). voices_word v (voices v)) vs

-- other voices than one, as it is tested
is_other : (voices : ℕ → ℕ) (v : ℕ) → voices v ≢ 1 → not_one voices v ≡ true
is_other voices v ne = rw (ne_eqb (voices v) 1 ne)

no_other : (voices : ℕ → ℕ) (v : ℕ) → voices v ≡ 1 → not_one voices v ≡ false
no_other voices v e = rw (eq-eqb (voices v) 1 e)

module _ (voices : ℕ → ℕ) (k : ℕ) where
  pub length_voices : length (voices_words voices k) ≡ length (others voices k)
  unfolding voices_words
  length_voices = length-map (others voices k) (λ (v : ℕ). voices_word v (voices v))

  -- what they are of
  pub other_mem : {v : ℕ} → Mem v (others voices k) → (v < k) × (voices v ≢ 1)
  other_mem {v} m = (
    passing_below (not_one voices) k m,
    λ e. absurd (true≢false (sym (passing_test (not_one voices) k m) ∙ no_other voices v e)),
  )

  pub mem_other : {v : ℕ} → v < k → voices v ≢ 1 → Mem v (others voices k)
  mem_other {v} h ne = test_passing (not_one voices) k h (is_other voices v ne)

  -- their marks are these episodes with their voices, and rise
  pub other_marks : (v c : ℕ) → Mem {A = ℕ × ℕ} (v, c) (map (marked_with voices) (others voices k)) ↔ ((v < k) × (voices v ≡ c) × (c ≢ 1))
  other_marks v c = (
    λ m.
        let (u, i, e) = Memᴰ.of_map (marked_with voices) (others voices k) m in
        let same : u ≡ v = ap (λ (s : ℕ × ℕ). s.0) e in
        let given : voices v ≡ c = ap voices (sym same) ∙ ap (λ (s : ℕ × ℕ). s.1) e in
        let (low, ne) = other_mem (Memᴰ.cast (sym same) i) in
        (low, given, λ f. ne (given ∙ f)),
    λ (low, given, ne).
        Memᴰ.cast (ap (λ (d : ℕ). (v, d)) (sym given)) (Memᴰ.map (marked_with voices) (mem_other low (λ f. ne (sym given ∙ f)))),
  )

  pub other_marks_rising : Rising (map (λ (s : ℕ × ℕ). s.0) (map (marked_with voices) (others voices k)))
  other_marks_rising =
      rw (map-map (λ (s : ℕ × ℕ). s.0) (marked_with voices) (others voices k), map-id (others voices k)) (passing_rising (not_one voices) k)

-- the same voices have the same voices words
pub voices_words_equal : (f g : ℕ → ℕ) (k : ℕ) → ((v : ℕ) → v < k → f v ≡ g v) → voices_words f k ≡ voices_words g k
unfolding voices_words
voices_words_equal f g k same =
    map_congr_left {f = λ (v : ℕ). voices_word v (f v)} {g = λ (v : ℕ). voices_word v (g v)} {l = others f k}
    (λ v m. ∥∥₁_rec (ℕ_set _ _) (λ i. ap (voices_word v) (same v (passing_below (not_one f) k i))) m)
    ∙ ap (words_of g) (passing_equal (not_one f) (not_one g) k (λ v h. rw (same v h)))

-- one voice each has none
pub voices_words_none : (f : ℕ → ℕ) (k : ℕ) → ((v : ℕ) → v < k → f v ≡ 1) → voices_words f k ≡ []
unfolding voices_words
voices_words_none f k one = go (others f k) (λ v m. other_mem f k m)
  where
    go : (vs : List ℕ) → All (λ v. (v < k) × (f v ≢ 1)) vs → words_of f vs ≡ []
    go [] h = refl
    go (v ∷ vs) h = let (low, ne) = h v (here refl) in absurd (ne (one v low))

-- the episode and its voices fit a voices word
abbrev pub FitsWord : (ℕ → ℕ) → ℕ → Type 0
FitsWord voices v = (v < 2 ^ 16) × (voices v < 2 ^ 12)

-- voices words give a mark each, and no links
module _ (voices : ℕ → ℕ) where
  pub words_kind : (vs : List ℕ) → All (FitsWord voices) vs → All (λ w. kind w ≡ 9) (words_of voices vs)
  words_kind vs h w m =
      let (v, i, e) = Memᴰ.of_map (λ (v : ℕ). voices_word v (voices v)) vs m in
      let (low, few) = h v i in
      rw (← e) (voices_kind v (voices v) low few)

  pub words_marks : (vs : List ℕ) → All (FitsWord voices) vs → marks_of (words_of voices vs) ≡ map (marked_with voices) vs
  words_marks [] h = marks_nil
  words_marks (v ∷ vs) h =
      let (low, few) = h v (here refl) in
      marks_voices (voices_word v (voices v)) (words_of voices vs) (voices_kind v (voices v) low few)
      ∙ rw (voices_episode_lem v (voices v) low few, voices_given_lem v (voices v) low few)
      (ap (λ (ms : List (ℕ × ℕ)). marked_with voices v ∷ ms) (words_marks vs (λ u m. h u (there m))))

  pub words_heard : (a : ℕ) (vs s : List ℕ) → All (FitsWord voices) vs → heard_from a (words_of voices vs ++ s) ≡ heard_from a s
  words_heard a [] s h = refl
  words_heard a (v ∷ vs) s h =
      let (low, few) = h v (here refl) in
      heard_voices a (voices_word v (voices v)) (words_of voices vs ++ s) (voices_kind v (voices v) low few)
      ∙ words_heard a vs s (λ u m. h u (there m))

  -- the marks are taken, where there are few episodes and no more voices than a log has
  pub marks_taken : (n : ℕ) (vs : List ℕ) → All (λ v. (v < n) × (voices v ≤ most_voices) × (n ≤ most_with_voices)) vs → Nodup vs
      → MarksTaken n (map (marked_with voices) vs)
  marks_taken n vs h once =
      record {
        few = few vs h;
        below = λ s m. let (v, i, e) = Memᴰ.of_map (marked_with voices) vs m in rw (← e) (h v i).0;
        voices = λ s m. let (v, i, e) = Memᴰ.of_map (marked_with voices) vs m in rw (← e) (h v i).1;
        once = rw (map-map (λ (s : ℕ × ℕ). s.0) (marked_with voices) vs, map-id vs) once;
      }
    where
      few : (us : List ℕ) → All (λ v. (v < n) × (voices v ≤ most_voices) × (n ≤ most_with_voices)) us → 0 < length (map (marked_with voices) us)
          → n ≤ most_with_voices
      few [] k long = absurd (omega arith)
      few (u ∷ us) k long = (k u (here refl)).2

-- the voices by the marks of some episodes: theirs, and one of another
module _ (voices : ℕ → ℕ) (v : ℕ) where
  marked_voices : (vs : List ℕ) → Nodup vs → Mem v vs → voices_by (map (marked_with voices) vs) v ≡ voices v
  marked_voices vs once m =
      voices_marked (map (marked_with voices) vs) (rw (map-map (λ (s : ℕ × ℕ). s.0) (marked_with voices) vs, map-id vs) once)
      (marked_with voices v) (Memᴰ.map (marked_with voices) m)

  unmarked_voices : (vs : List ℕ) → (Mem v vs → ⊥) → voices_by (map (marked_with voices) vs) v ≡ 1
  unmarked_voices vs none =
      voices_unmarked (map (marked_with voices) vs) v
      (λ m. none (rw (map-map (λ (s : ℕ × ℕ). s.0) (marked_with voices) vs, map-id vs) at m))

  -- so the marks of the episodes below `k` that have other voices than one give the voices of each below `k`
  pub voices_told : (k : ℕ) → v < k → voices_by (map (marked_with voices) (others voices k)) v ≡ voices v
  voices_told k h = go (ℕ_discrete (voices v) 1)
    where
      go : Dec (voices v ≡ 1) → voices_by (map (marked_with voices) (others voices k)) v ≡ voices v
      go (yes e) = unmarked_voices (others voices k) (λ m. (other_mem voices k m).1 e) ∙ sym e
      go (no ne) = marked_voices (others voices k) (passing_nodup (not_one voices) k) (mem_other voices k h ne)
