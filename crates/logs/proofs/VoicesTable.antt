-- The table of the voices of a log that passes: one voice for each episode, and then the voices of each voices word for its episode, one word after the
-- other.
use mathlib.Core.Path.{◌≡◌, refl, ◌∙◌, ap, sym, subst}
use mathlib.Core.List.{List, [], ◌∷◌, ◌++◌, append-nil}
use Prim.Native.Nat.{ℕ, ◌+◌, ◌-◌, ◌<◌, ◌≤◌}
use native.Mathlib.Decide.{ℕ_discrete}
use native.Mathlib.Omega.{arith}
use Rattle.std.proofs.lemmas.List.{get_or_append_left, get_or-append_right, get_or-set_same, get_or-set_other, get_or-replicate, length-replicate, take-append-drop}
use lib.ListN.{length, get_or, take, drop, replicate, set, length-append, length-drop, length-set}
use lib.Seq.{get_or-drop, length-take-le}
use Rattle.logs.specs.Words.{kind, voices_episode, voices_given}
use Rattle.logs.specs.Log.{marks_of, voices_by, voices_count, PassesWith}
use Rattle.logs.specs.Voices.{VoicesRead}
use Rattle.logs.proofs.Places.{drop_at}
use Rattle.logs.proofs.Marks.{mark_of, marks_voices, marks_append, marks_all, marks_nil, marks_next, voices_new, voices_old}
use Rattle.logs.proofs.Voices.{VoicesTaken, MarksTaken, word_taken}
use Rattle.logs.proofs.WellFormed.{WellFormed, well_formed}
use Rattle.logs.proofs.BehindHead.{all_voices}

-- one voice for each of the `n` episodes: no word has been read
pub ones_read : (n : ℕ) (t xs : List ℕ) → n ≤ length t → xs ≡ replicate n 1 → VoicesRead (voices_by []) n t (xs ++ drop n t)
unfolding voices_by
ones_read n t xs h e =
    let long : length xs ≡ n = ap length e ∙ length-replicate n 1 in
    record {
      same_length = simp (length-append, length-drop) (omega arith);
      here = λ v g.
          get_or_append_left xs (drop n t) 0 v (omega arith) ∙ ap (λ (ys : List ℕ). get_or ys v 0) e ∙ get_or-replicate n v 1 0 g;
      behind = λ i g.
          let same : n + (i - n) ≡ i = omega arith in
          get_or-append_right xs (drop n t) n i 0 long g ∙ get_or-drop n t (i - n) 0 ∙ ap (λ (j : ℕ). get_or t j 0) same;
    }

-- the mark of one voices word more, of an episode that had none, is written
module _ (n : ℕ) (ss : List (ℕ × ℕ)) (w : ℕ) (t u : List ℕ) (few : n ≤ length t) (k : VoicesTaken n w ss) (r : VoicesRead (voices_by ss) n t u) where
  written : VoicesRead (voices_by (ss ++ mark_of w ∷ [])) n t (set u (voices_episode w) (voices_given w))
  written =
      let below = k.below in
      record {
        same_length = length-set u (voices_episode w) (voices_given w) ∙ r.same_length;
        here = λ v g. here v g (ℕ_discrete v (voices_episode w));
        behind = λ i g. get_or-set_other u (voices_episode w) i (voices_given w) 0 (λ e. omega arith) ∙ r.behind i g;
      }
    where
      here : (v : ℕ) → v < n → Dec (v ≡ voices_episode w) → get_or (set u (voices_episode w) (voices_given w)) v 0 ≡ voices_by (ss ++ mark_of w ∷ []) v
      here v g (yes e) =
          let low : voices_episode w < length u = omega (arith, k.below, r.same_length) in
          rw e (get_or-set_same u (voices_episode w) (voices_given w) 0 low ∙ sym (voices_new (mark_of w) ss k.first))
      here v g (no ne) = get_or-set_other u (voices_episode w) v (voices_given w) 0 ne ∙ r.here v g ∙ sym (voices_old (mark_of w) ss v ne)

  -- the same, of the marks, the episode and the voices that are equal to these
  pub mark_written : (ms : List (ℕ × ℕ)) (b c : ℕ) → ms ≡ ss ++ mark_of w ∷ [] → b ≡ voices_episode w → c ≡ voices_given w
      → VoicesRead (voices_by ms) n t (set u b c)
  mark_written ms b c marks episode voices = rw (marks, episode, voices) written

-- of a log that passes with `n` episodes and `t` to words
module _ (l : List ℕ) (n t : ℕ) (e : PassesWith l n t) where
  formed : WellFormed (record { episodes = n; words = t }) l n t
  formed = well_formed _ l n t e

  -- a word behind the head and before the groups is a voices word
  voices_kind : (i : ℕ) → i < voices_count l → kind (get_or (drop 1 l) i 0) ≡ 9
  voices_kind i h =
      let e : 1 + i ≡ i + 1 = omega arith in
      rw (get_or-drop 1 l i 0, e) (formed.voices.before (i + 1) (omega arith) (omega arith))

  inside : (i : ℕ) → i < voices_count l → i < length (drop 1 l)
  inside i h = omega (arith, length-drop 1 l, formed.voices.within)

  -- it is taken behind the words before it
  pub voices_word_taken : (i : ℕ) → i < voices_count l → VoicesTaken n (get_or (drop 1 l) i 0) (marks_of (take i (drop 1 l)))
  voices_word_taken i h =
      let s : List ℕ = drop 1 l in
      let w : ℕ = get_or s i 0 in
      let parts : marks_of s ≡ marks_of (take i s) ++ mark_of w ∷ marks_of (drop (i + 1) s) =
      ap marks_of (sym (take-append-drop i s) ∙ ap (λ (ys : List ℕ). take i s ++ ys) (drop_at s i (inside i h)))
      ∙ marks_append (take i s) (w ∷ drop (i + 1) s)
      ∙ ap (λ (ms : List (ℕ × ℕ)). marks_of (take i s) ++ ms) (marks_voices w (drop (i + 1) s) (voices_kind i h)) in
      word_taken n w (marks_of (take i s)) (marks_of (drop (i + 1) s)) (subst (MarksTaken n) parts formed.marks)

  -- its mark is the next one
  pub voices_word_next : (i : ℕ) → i < voices_count l
      → marks_of (take (i + 1) (drop 1 l)) ≡ marks_of (take i (drop 1 l)) ++ mark_of (get_or (drop 1 l) i 0) ∷ []
  voices_word_next i h =
      let s : List ℕ = drop 1 l in
      marks_next s i (inside i h)
      ∙ ap (λ (ms : List (ℕ × ℕ)). marks_of (take i s) ++ ms) (marks_voices (get_or s i 0) [] (voices_kind i h) ∙ ap (λ (ms : List (ℕ × ℕ)). mark_of (get_or s i 0) ∷ ms) marks_nil)

  -- and all of them have been read behind the last
  pub voices_words_all : marks_of (take (voices_count l) (drop 1 l)) ≡ marks_of (drop 1 l)
  voices_words_all =
      let s : List ℕ = drop 1 l in
      let c : ℕ = voices_count l in
      let fits : c ≤ length s = omega (arith, length-drop 1 l, formed.voices.within) in
      let parts : marks_of s ≡ marks_of (take c s) ++ marks_of (drop c s) = ap marks_of (sym (take-append-drop c s)) ∙ marks_append (take c s) (drop c s) in
      let front : length (marks_of (take c s)) ≡ c = marks_all (take c s) (all_voices c s voices_kind fits) ∙ length-take-le c s fits in
      let rest : length (marks_of (drop c s)) ≡ 0 = omega (arith, ap length parts, length-append (marks_of (take c s)) (marks_of (drop c s))) in
      sym (parts ∙ ap (λ (ms : List (ℕ × ℕ)). marks_of (take c s) ++ ms) (none (marks_of (drop c s)) rest) ∙ append-nil (marks_of (take c s)))
    where
      none : (ms : List (ℕ × ℕ)) → length ms ≡ 0 → ms ≡ []
      none [] h = refl
      none (m ∷ ms) h = absurd (omega arith)
