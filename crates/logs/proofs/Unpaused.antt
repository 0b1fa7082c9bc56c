-- A log in which every to word has pause 0: the answer to questions 1 to 10 and 18 to 21 and the links that were heard, but for their pauses, are those of
-- the log.
use mathlib.Core.Path.{◌≡◌, refl, ◌∙◌, ap, ap₂, sym}
use mathlib.Core.Bool.{Bool, true, false, not, ◌||◌}
use mathlib.Core.List.{List, [], ◌∷◌, ◌++◌, map}
use Prim.Native.Nat.{ℕ, ◌+◌}
use native.Mathlib.Decide.{ℕ_discrete}
use native.Mathlib.Omega.{arith}
use lib.Dec.{leb, ltb}
use lib.ListN.{length, length-map}
use borrow.Author.Tests.{eqb-true, ne_eqb}
use Rattle.paths.specs.Graph.{Graph}
use Rattle.logs.specs.Words.{kind, number, head_episodes, to_episode, to_word, voices_episode, voices_given}
use Rattle.logs.specs.Content.{joins, heard_graph}
use Rattle.logs.specs.Answer.{Answer, given, and_then}
use Rattle.logs.specs.Log.{
  is_from,
  is_to,
  to_before_last,
  figure,
  minutes,
  head_word,
  group_word,
  end_word,
  counted,
  onwards,
  is_voices,
  voices_asked,
  voices_onwards,
  questions,
  marks_of,
  voices_by,
  heard_from,
  content_of,
  graph_of,
  heard_count,
  without_pause,
  without_pauses,
  voices_count,
}
use Rattle.logs.specs.declared.Ceilings.{Ceilings}
use Rattle.logs.proofs.Words.{to_kind, to_episode_lem, figure_to}
use Rattle.logs.proofs.Asked.{same_five}
use Rattle.logs.proofs.Links.{heard_to}
use Rattle.logs.proofs.Marks.{mark_of, marks_voices, marks_other}
use Rattle.logs.proofs.Counts.{old_graph}

module _ (w : ℕ) where
  to_word_unpaused : is_to w ≡ true → without_pause w ≡ to_word (to_episode w) 0
  to_word_unpaused e = rw (e, without_pause)

  other_unpaused : is_to w ≡ false → without_pause w ≡ w
  other_unpaused e = rw (e, without_pause)

  -- the kind stays, and what question 7 looks at
  kind_unpaused : kind (without_pause w) ≡ kind w
  kind_unpaused = by_kind (is_to w) refl
    where
      by_kind : (b : Bool) → is_to w ≡ b → kind (without_pause w) ≡ kind w
      by_kind true e = rw (to_word_unpaused e) (to_kind (to_episode w) 0 (omega arith) (omega arith) ∙ sym (eqb-true (kind w) 3 e))
      by_kind false e = rw (other_unpaused e)

  figure_unpaused : figure (without_pause w) ≡ figure w
  figure_unpaused = by_kind (is_to w) refl
    where
      by_kind : (b : Bool) → is_to w ≡ b → figure (without_pause w) ≡ figure w
      by_kind true e =
          let k : kind w ≡ 3 = eqb-true (kind w) 3 e in
          figure_to (without_pause w) (kind_unpaused ∙ k)
          ∙ rw (to_word_unpaused e) (to_episode_lem (to_episode w) 0 (omega arith) (omega arith))
          ∙ sym (figure_to w k)
      by_kind false e = rw (other_unpaused e)

-- whether a to word stands behind does not depend on its pause
follows_unpaused : (s : List ℕ) → to_before_last (map without_pause s) 0 ≡ to_before_last s 0
follows_unpaused [] = refl
follows_unpaused (w ∷ rest) = rw (kind_unpaused w, length-map rest without_pause)

-- nor does what is asked of a word and behind it
module _ (m : Ceilings) (next : Answer (ℕ × ℕ)) where
  group_unpaused : (n p w : ℕ) (rest : List ℕ) (from : Bool) (t : ℕ)
      → and_then (group_word m n p (without_pause w) (map without_pause rest) from t) next ≡ and_then (group_word m n p w rest from t) next
  unfolding group_word
  group_unpaused n p w rest from t =
      rw (kind_unpaused w, figure_unpaused w, follows_unpaused rest)
      (same_five {A = ℕ × ℕ × ℕ} {B = ℕ × ℕ × ℕ} (kind w, figure w, minutes (without_pause w)) (kind w, figure w, minutes w) next p
      (is_from w || is_to w)
      (not (is_to w) || from)
      (not (is_from w) || to_before_last rest 0)
      (ltb (figure w) n)
      (not (is_to w) || leb (t + 1) m.words))

-- a to word as the last word is refused, whatever its number
end_unpaused : (p w t : ℕ) → end_word p (without_pause w) t ≡ end_word p w t
unfolding end_word
end_unpaused p w t = by_kind (is_to w) refl
  where
    by_kind : (b : Bool) → is_to w ≡ b → end_word p (without_pause w) t ≡ end_word p w t
    by_kind true e = rw (kind_unpaused w, eqb-true (kind w) 3 e)
    by_kind false e = rw (other_unpaused w e)

onwards_unpaused : (m : Ceilings) (n p w : ℕ) (rest : List ℕ) (from : Bool) (t : ℕ)
    → onwards m n p (without_pause w) (map without_pause rest) from t ≡ onwards m n p w rest from t
unfolding onwards
onwards_unpaused m n p w [] from t = ap (λ (a : Answer (ℕ × ℕ × ℕ)). and_then a (given (n, t))) (end_unpaused p w t)
onwards_unpaused m n p w (x ∷ rest) from t =
    rw (kind_unpaused w, onwards_unpaused m n (p + 1) x rest (from || is_from w) (counted (is_to w) t))
    (group_unpaused m (onwards m n (p + 1) x rest (from || is_from w) (counted (is_to w) t)) n p w (x ∷ rest) from t)

-- a voices word stays as it is
same_voices_word : (w : ℕ) → kind w ≡ 9 → without_pause w ≡ w
same_voices_word w k = other_unpaused w (ne_eqb (kind w) 3 (λ e. omega arith))

voices_unpaused : (m : Ceilings) (n p w : ℕ) (rest : List ℕ) (marks : List (ℕ × ℕ))
    → voices_onwards m n p (without_pause w) (map without_pause rest) marks ≡ voices_onwards m n p w rest marks
unfolding voices_onwards
voices_unpaused m n p w [] marks = onwards_unpaused m n p w [] false 0
voices_unpaused m n p w (x ∷ rest) marks = by_kind (is_voices w) refl (voices_unpaused m n (p + 1) x rest (marks ++ (voices_episode w, voices_given w) ∷ []))
  where
    by_kind : (b : Bool) → is_voices w ≡ b
        → voices_onwards m n (p + 1) (without_pause x) (map without_pause rest) (marks ++ (voices_episode w, voices_given w) ∷ [])
        ≡ voices_onwards m n (p + 1) x rest (marks ++ (voices_episode w, voices_given w) ∷ [])
        → voices_onwards m n p (without_pause w) (map without_pause (x ∷ rest)) marks ≡ voices_onwards m n p w (x ∷ rest) marks
    by_kind true e more = rw (same_voices_word w (eqb-true (kind w) 9 e)) (rw (e, voices_onwards) (ap (and_then (voices_asked n p w marks)) more))
    by_kind false e more = rw (kind_unpaused w, e, voices_onwards) (onwards_unpaused m n p w (x ∷ rest) false 0)

pub questions_unpaused : (m : Ceilings) (l : List ℕ) → questions m (without_pauses l) ≡ questions m l
unfolding questions without_pauses
questions_unpaused m [] = refl
questions_unpaused m (w ∷ []) = refl
questions_unpaused m (w ∷ x ∷ rest) = ap (and_then (head_word m w)) (voices_unpaused m (head_episodes w) 1 x rest [])

-- the same links are heard, but for their pauses
heard_unpaused : (a : ℕ) (s : List ℕ) → map joins (heard_from a (map without_pause s)) ≡ map joins (heard_from a s)
unfolding heard_from
heard_unpaused a [] = refl
heard_unpaused a (w ∷ rest) = by_kind (is_from w) (is_to w) refl refl (λ b. heard_unpaused b rest)
  where
    by_kind : (x y : Bool) → is_from w ≡ x → is_to w ≡ y
        → ((b : ℕ) → map joins (heard_from b (map without_pause rest)) ≡ map joins (heard_from b rest))
        → map joins (heard_from a (without_pause w ∷ map without_pause rest)) ≡ map joins (heard_from a (w ∷ rest))
    by_kind x true f g more =
        let k : kind w ≡ 3 = eqb-true (kind w) 3 g in
        let episode : to_episode (without_pause w) ≡ to_episode w = rw (to_word_unpaused w g) (to_episode_lem (to_episode w) 0 (omega arith) (omega arith)) in
        ap (map joins) (heard_to a (without_pause w) (map without_pause rest) (kind_unpaused w ∙ k))
        ∙ ap₂ (λ (b : ℕ) (ls : List (ℕ × ℕ)). (a, b) ∷ ls) episode (more a)
        ∙ sym (ap (map joins) (heard_to a w rest k))
    by_kind true false f g more = rw (other_unpaused w g) (rw (f, heard_from) (more (number w)))
    by_kind false false f g more = rw (other_unpaused w g) (rw (f, g, heard_from) (more a))

-- the marks stay
marks_unpaused : (s : List ℕ) → marks_of (map without_pause s) ≡ marks_of s
unfolding marks_of
marks_unpaused [] = refl
marks_unpaused (w ∷ rest) = by_kind (ℕ_discrete (kind w) 9) (marks_unpaused rest)
  where
    by_kind : Dec (kind w ≡ 9) → marks_of (map without_pause rest) ≡ marks_of rest → marks_of (map without_pause (w ∷ rest)) ≡ marks_of (w ∷ rest)
    by_kind (yes k) more =
        rw (same_voices_word w k, marks_voices w (map without_pause rest) k, marks_voices w rest k) (ap (λ (ss : List (ℕ × ℕ)). mark_of w ∷ ss) more)
    by_kind (no ne) more = marks_other (without_pause w) (map without_pause rest) (λ e. ne (sym (kind_unpaused w) ∙ e)) ∙ more ∙ sym (marks_other w rest ne)

pub links_unpaused : (l : List ℕ) → heard_graph (content_of (without_pauses l)) ≡ heard_graph (content_of l)
unfolding without_pauses
links_unpaused [] = refl
links_unpaused (w ∷ rest) =
    ap₂ (λ (ls : List (ℕ × ℕ)) (ss : List (ℕ × ℕ)). record { n = head_episodes w; links = ls; voices = voices_by ss }) (heard_unpaused 0 rest)
    (marks_unpaused rest)

pub count_unpaused : (l : List ℕ) → heard_count (without_pauses l) ≡ heard_count l
count_unpaused l =
    sym (length-map (content_of (without_pauses l)).heard joins)
    ∙ ap (λ (g : Graph). length g.links) (links_unpaused l)
    ∙ length-map (content_of l).heard joins

pub voices_count_unpaused : (l : List ℕ) → voices_count (without_pauses l) ≡ voices_count l
unfolding without_pauses
voices_count_unpaused [] = refl
voices_count_unpaused (w ∷ rest) = ap length (marks_unpaused rest)

version_unpaused : (l : List ℕ) → (content_of (without_pauses l)).version ≡ (content_of l).version
unfolding without_pauses
version_unpaused [] = refl
version_unpaused (w ∷ rest) = refl

-- so in version 0 the graph is the same
pub graph_unpaused : (l : List ℕ) → (content_of l).version ≡ 0 → graph_of (without_pauses l) ≡ graph_of l
graph_unpaused l old =
    old_graph (content_of (without_pauses l)) (version_unpaused l ∙ old) ∙ links_unpaused l ∙ sym (old_graph (content_of l) old)
