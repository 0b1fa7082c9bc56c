-- Older logs read as before: version 0, pause 0 everywhere, one voice for each episode, and the graph and the answer to questions 1 to 10 that they had.
use mathlib.Core.Path.{◌≡◌, refl, ◌∙◌, ap, ap₂}
use mathlib.Core.Logic.{◌≢◌, ⊎_elim}
use mathlib.Core.Bool.{Bool, true, false, not, ◌||◌}
use mathlib.Core.List.Memᴰ.{cases_cons as mem-cases}
use mathlib.Core.List.Memᴰ.{head as here}
use mathlib.Core.List.Memᴰ.{not-nil}
use mathlib.Core.List.Memᴰ.{tail as there}
use mathlib.Core.List.{
  List,
  [],
  ◌∷◌,
  map,
}
use Prim.Native.Nat.{ℕ, ◌+◌, ◌<◌, ◌^◌}
use native.Mathlib.Decide.{ℕ_discrete}
use native.Mathlib.Omega.{arith}
use lib.Dec.{leb, ltb, eqb}
use lib.ListN.{length, get_or, drop}
use borrow.Author.Tests.{eqb-true, ne_eqb}
use Rattle.order.specs.Order.{All}
use Rattle.logs.specs.Words.{kind, number, head_episodes, head_version, to_episode, to_pause}
use Rattle.logs.specs.Content.{Heard, joins}
use Rattle.logs.specs.Answer.{Answer, given, and_then}
use Rattle.logs.specs.Log.{is_from, is_to, to_before_last, figure, minutes, head_word, group_word, end_word, counted, onwards, voices_onwards, questions, marks_of, voices_by, heard_from, content_of, graph_of, voices_count}
use Rattle.logs.specs.Earlier.{Unpaused, Older}
use Rattle.logs.specs.Earlier as earlier
use Rattle.logs.specs.declared.Ceilings.{Ceilings}
use Rattle.logs.proofs.Words.{figure_to}
use Rattle.logs.proofs.Asked.{same_two, same_five}
use Rattle.logs.proofs.Marks.{marks_nil, marks_none}
use Rattle.logs.proofs.Counts.{old_graph}

-- a word of an older log: question 7 looks at its whole number
figure_older : (w : ℕ) → (kind w ≡ 3 → number w < 2 ^ 16) → figure w ≡ number w
figure_older w h = go (ℕ_discrete (kind w) 3)
  where
    go : Dec (kind w ≡ 3) → figure w ≡ number w
    go (yes k) = let low = h k in rw (figure_to w k) (omega arith)
    go (no ne) = rw (ne_eqb (kind w) 3 ne, figure)

-- the head of an older log: its version is 0, and its whole number is n
module _ (w : ℕ) (low : number w < 2 ^ 24) where
  old_version : head_version w ≡ 0
  old_version = omega arith

  old_episodes : head_episodes w ≡ number w
  old_episodes = omega arith

module _ (w : ℕ) (next : Answer (ℕ × ℕ)) where
  head_older : (m : Ceilings) → number w < 2 ^ 24 → and_then (head_word m w) next ≡ and_then (earlier.head_word m w) next
  head_older m low =
      rw (old_version w low, old_episodes w low)
      (same_two {A = ℕ × ℕ × ℕ} {B = ℕ × ℕ} (kind w, number w, 0) (kind w, number w) next 0 2 3 0 (eqb (kind w) 1) (leb (number w) m.episodes))

  end_older : (p t : ℕ) → and_then (end_word p w t) next ≡ and_then (earlier.end_word p w t) next
  unfolding end_word earlier.end_word
  end_older p t =
      same_two {A = ℕ × ℕ × ℕ} {B = ℕ × ℕ} (kind w, number w, 0) (kind w, number w) next p 9 10 p (eqb (kind w) 15) (eqb (number w) t)

  group_older : (m : Ceilings) (n p : ℕ) (rest : List ℕ) (from : Bool) (t : ℕ) → (kind w ≡ 3 → number w < 2 ^ 16)
      → and_then (group_word m n p w rest from t) next ≡ and_then (earlier.group_word m n p w rest from t) next
  unfolding group_word earlier.group_word
  group_older m n p rest from t h =
      rw (figure_older w h)
      (same_five {A = ℕ × ℕ × ℕ} {B = ℕ × ℕ} (kind w, number w, minutes w) (kind w, number w) next p
      (is_from w || is_to w)
      (not (is_to w) || from)
      (not (is_from w) || to_before_last rest 0)
      (ltb (number w) n)
      (not (is_to w) || leb (t + 1) m.words))

onwards_older : (m : Ceilings) (n p w : ℕ) (rest : List ℕ) (from : Bool) (t : ℕ) → Unpaused (w ∷ rest)
    → onwards m n p w rest from t ≡ earlier.onwards m n p w rest from t
unfolding onwards earlier.onwards
onwards_older m n p w [] from t h = end_older w (given (n, t)) p t
onwards_older m n p w (x ∷ rest) from t h =
    group_older w (onwards m n (p + 1) x rest (from || is_from w) (counted (is_to w) t)) m n p (x ∷ rest) from t (h w (here refl))
    ∙ ap (and_then (earlier.group_word m n p w (x ∷ rest) from t))
    (onwards_older m n (p + 1) x rest (from || is_from w) (counted (is_to w) t) (λ y i. h y (there i)))

-- it has no voices word, so behind the head 4 to 10 are asked at once
voices_older : (m : Ceilings) (n p w : ℕ) (rest : List ℕ) → kind w ≢ 9 → voices_onwards m n p w rest [] ≡ onwards m n p w rest false 0
unfolding voices_onwards
voices_older m n p w [] ne = refl
voices_older m n p w (x ∷ rest) ne = rw (ne_eqb (kind w) 9 ne, voices_onwards)

pub questions_older : (m : Ceilings) (l : List ℕ) → Older l → questions m l ≡ earlier.questions m l
unfolding questions earlier.questions
questions_older m [] h = refl
questions_older m (w ∷ []) h = refl
questions_older m (w ∷ x ∷ rest) (h, low, none) =
    ap (and_then (head_word m w)) (voices_older m (head_episodes w) 1 x rest (none x (there (here refl))))
    ∙ head_older w (onwards m (head_episodes w) 1 x rest false 0) m low
    ∙ rw (old_episodes w low) (ap (and_then (earlier.head_word m w)) (onwards_older m (number w) 1 x rest false 0 (λ y i. h y (there i))))

-- its links are those that it had, each with pause 0
heard_older : (a : ℕ) (s : List ℕ) → Unpaused s
    → (map joins (heard_from a s) ≡ earlier.links_from a s) × All (λ h. h.pause ≡ 0) (heard_from a s)
unfolding heard_from earlier.links_from
heard_older a [] h = (refl, λ x i. absurd (not-nil i))
heard_older a (w ∷ rest) h = by_kind (is_from w) (is_to w) refl refl (λ b. heard_older b rest (λ y i. h y (there i)))
  where
    by_kind : (x y : Bool) → is_from w ≡ x → is_to w ≡ y
        → ((b : ℕ) → (map joins (heard_from b rest) ≡ earlier.links_from b rest) × All (λ h. h.pause ≡ 0) (heard_from b rest))
        → (map joins (heard_from a (w ∷ rest)) ≡ earlier.links_from a (w ∷ rest)) × All (λ h. h.pause ≡ 0) (heard_from a (w ∷ rest))
    by_kind true y f g more = rw (f, heard_from, earlier.links_from) (more (number w))
    by_kind false true f g more =
        let low : number w < 2 ^ 16 = h w (here refl) (eqb-true (kind w) 3 g) in
        let episode : to_episode w ≡ number w = omega arith in
        let none : to_pause w ≡ 0 = omega arith in
        rw (f, g, heard_from, earlier.links_from) (
          ap₂ (λ (b : ℕ) (ls : List (ℕ × ℕ)). (a, b) ∷ ls) episode (more a).0,
          λ x i. ⊎_elim (λ e. ap (λ (v : Heard). v.pause) e ∙ none) ((more a).1 x) (mem-cases i),
        )
    by_kind false false f g more = rw (f, g, heard_from, earlier.links_from) (more a)

-- so are the words behind the head, and none of them gives a mark
behind_older : (l : List ℕ) → Unpaused l → Unpaused (drop 1 l)
behind_older [] h = h
behind_older (w ∷ l) h = λ x i. h x (there i)

unmarked_older : (l : List ℕ) → All (λ w. kind w ≢ 9) l → marks_of (drop 1 l) ≡ []
unmarked_older [] h = marks_nil
unmarked_older (w ∷ l) h = marks_none l (λ x i. h x (there i))

-- each episode has one voice
one_voice : voices_by [] ≡ (λ v. 1)
unfolding voices_by
one_voice = refl

module _ (l : List ℕ) (older : Older l) where
  pub version_older : (content_of l).version ≡ 0
  version_older = old_version (get_or l 0 0) older.1

  voices_older_lem : (content_of l).voices ≡ (λ v. 1)
  voices_older_lem = ap voices_by (unmarked_older l older.2) ∙ one_voice

  pub no_voices_older : voices_count l ≡ 0
  no_voices_older = ap length (unmarked_older l older.2)

  pub graph_older : graph_of l ≡ earlier.graph_of l
  graph_older =
      old_graph (content_of l) version_older
      ∙ ap₂ (λ (k : ℕ) (ls : List (ℕ × ℕ)). record { n = k; links = ls; voices = (content_of l).voices }) (old_episodes (get_or l 0 0) older.1)
      (heard_older 0 (drop 1 l) (behind_older l older.0)).0
      ∙ ap (λ (f : ℕ → ℕ). record { n = number (get_or l 0 0); links = earlier.links_from 0 (drop 1 l); voices = f }) voices_older_lem

  pub no_pause_lem : All (λ k. k.pause ≡ 0) (content_of l).heard
  no_pause_lem = (heard_older 0 (drop 1 l) (behind_older l older.0)).1
