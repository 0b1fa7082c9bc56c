-- The questions of voices words: what an answer says of the word, what it takes to be given one, and what is left to ask behind it. The marks that a
-- log gives are taken one by one.
use mathlib.Core.Path.{◌≡◌, refl, ◌∙◌, ap, sym}
use mathlib.Core.Logic.{◌≢◌, ⊎_elim}
use mathlib.Core.Bool.{Bool, true, false, not}
use mathlib.Core.List.Memᴰ
use mathlib.Core.List.Memᴰ.{cases_cons as mem-cases, append_cases, eq_of_singleton, not-nil}
use mathlib.Core.List.Memᴰ.{head as here}
use mathlib.Core.List.Memᴰ.{tail as there}
use mathlib.Core.List.Pairwise
use mathlib.Core.List.{List, [], ◌∷◌, ◌++◌, map-append, append_assoc, Memᴰ as Mem, Nodup}
use Prim.Native.Nat.{ℕ, suc, ◌+◌, ◌<◌, ◌≤◌}
use native.Mathlib.Decide.{ℕ_discrete}
use native.Mathlib.Omega.{arith}
use native.Mathlib.Nat.{add-zero}
use lib.Dec.{ltb, leb}
use lib.ListN.{length, get_or, drop, replicate, set, length-append, drop_of_length-le}
use borrow.Author.Tests.{lt-ltb, leb-true, ltb-true, ltb-false, le-leb, ne_eqb}
use Rattle.std.proofs.lemmas.Bool.{not-true}
use Rattle.std.proofs.lemmas.List.{get_or-set_same, get_or-set_other, get_or-replicate}
use Rattle.order.specs.Order.{All}
use Rattle.order.proofs.Lists.{all_nil, nodup_cons, nodup_head, nodup_tail, nodup_append}
use Rattle.logs.specs.Words.{kind, head_episodes, voices_episode, voices_given}
use Rattle.logs.specs.Answer.{Answer, given, refused, question, and_then, voices_figures}
use Rattle.logs.specs.Log.{most_with_voices, most_voices, marked, head_word, onwards, voices_asked, voices_onwards, questions, marks_of}
use Rattle.logs.specs.Places.{onwards_at, voices_from_head, Noted, BehindVoices}
use Rattle.logs.specs.Groups.{before}
use Rattle.logs.specs.declared.Ceilings.{Ceilings}
use Rattle.logs.specs.declared.VoicesWord.{VoicesWord}
use Rattle.logs.proofs.Asked.{asked}
use Rattle.logs.proofs.Links.{before_next}
use Rattle.logs.proofs.Places.{drop_at}
use Rattle.logs.proofs.Marks.{marked_episodes, mark_of, marks_nil, marks_voices, marks_append, marked_not, not_marked, marked_new, marked_old}

-- what the questions say of a voices word that is taken
pub record VoicesTaken (n w : ℕ) (marks : List (ℕ × ℕ)) : Type 0 where
  pub few : n ≤ most_with_voices
  pub below : voices_episode w < n
  pub voices : voices_given w ≤ most_voices
  pub first : Mem (voices_episode w) (marked_episodes marks) → ⊥

-- and of all marks of a log with `n` episodes
pub record MarksTaken (n : ℕ) (marks : List (ℕ × ℕ)) : Type 0 where
  pub few : 0 < length marks → n ≤ most_with_voices
  pub below : All (λ s. s.0 < n) marks
  pub voices : All (λ s. s.1 ≤ most_voices) marks
  pub once : Nodup (marked_episodes marks)

module _ (n p w : ℕ) (marks : List (ℕ × ℕ)) where
  pub voices_taken : (a : ℕ × ℕ × ℕ) → voices_asked n p w marks ≡ given a → VoicesTaken n w marks
  unfolding voices_asked
  voices_taken a e =
      let taken : Answer (ℕ × ℕ × ℕ) = given (kind w, voices_episode w, voices_given w) in
      let again : Answer (ℕ × ℕ × ℕ) = question 21 p (not (marked (voices_episode w) marks)) taken in
      let many : Answer (ℕ × ℕ × ℕ) = question 19 p (leb (voices_given w) most_voices) again in
      let twenty = asked 20 p (leb n most_with_voices) (question 7 p (ltb (voices_episode w) n) many) a e in
      let seven = asked 7 p (ltb (voices_episode w) n) many a twenty.1 in
      let nineteen = asked 19 p (leb (voices_given w) most_voices) again a seven.1 in
      let once = asked 21 p (not (marked (voices_episode w) marks)) taken a nineteen.1 in
      record {
        few = leb-true n most_with_voices twenty.0;
        below = ltb-true (voices_episode w) n seven.0;
        voices = leb-true (voices_given w) most_voices nineteen.0;
        first = marked_not (voices_episode w) marks (not-true (marked (voices_episode w) marks) once.0);
      }

  pub taken_given : VoicesTaken n w marks → voices_asked n p w marks ≡ given (kind w, voices_episode w, voices_given w)
  unfolding voices_asked
  taken_given k =
      rw (
        le-leb n most_with_voices k.few,
        lt-ltb (voices_episode w) n k.below,
        le-leb (voices_given w) most_voices k.voices,
        not_marked (voices_episode w) marks k.first,
      )

-- the episode of a voices word that is taken is among those that are noted
pub episode_given : (n p w : ℕ) (marks : List (ℕ × ℕ)) (v : VoicesWord) → given (voices_figures v) ≡ voices_asked n p w marks
    → (v.episode ≡ voices_episode w) × (v.episode < most_with_voices)
episode_given n p w marks v e =
    let taken = voices_taken n p w marks (voices_figures v) (sym e) in
    let figures : voices_figures v ≡ (kind w, voices_episode w, voices_given w) = cc (e ∙ taken_given n p w marks taken) in
    let same : v.episode ≡ voices_episode w = ap (λ (f : ℕ × ℕ × ℕ). f.1) figures in
    (same, omega (arith, same, taken.few, taken.below))

-- no marks are taken, and one more where the questions take its word
pub no_marks : (n : ℕ) → MarksTaken n []
no_marks n = record { few = λ h. absurd (omega arith); below = all_nil _; voices = all_nil _; once = Pairwise.nil }

pub marks_more : (n w : ℕ) (marks : List (ℕ × ℕ)) → MarksTaken n marks → VoicesTaken n w marks → MarksTaken n (marks ++ mark_of w ∷ [])
marks_more n w marks r k =
    record {
      few = λ h. k.few;
      below = λ s m. ⊎_elim (r.below s) (λ i. omega (arith, ap (λ (x : ℕ × ℕ). x.0) (eq_of_singleton i), k.below)) (append_cases marks m);
      voices = λ s m. ⊎_elim (r.voices s) (λ i. omega (arith, ap (λ (x : ℕ × ℕ). x.1) (eq_of_singleton i), k.voices)) (append_cases marks m);
      once =
          rw (map-append (λ (s : ℕ × ℕ). s.0) marks (mark_of w ∷ []))
          (nodup_append (marked_episodes marks) (voices_episode w ∷ []) r.once (nodup_cons not-nil Pairwise.nil)
          (λ v m i. k.first (Memᴰ.cast (sym (eq_of_singleton i)) m)));
    }

-- a number behind others is none of them, where none is there twice
not_in_front : (vs : List ℕ) (v : ℕ) (us : List ℕ) → Nodup (vs ++ v ∷ us) → Mem v vs → ⊥
not_in_front [] v us p m = not-nil m
not_in_front (x ∷ vs) v us p m =
    ⊎_elim (λ e. nodup_head p (Memᴰ.append_right vs (here (sym e)))) (not_in_front vs v us (nodup_tail p)) (mem-cases m)

-- where marks are taken, so are those at the front, and the word of one behind them
pub word_taken : (n w : ℕ) (marks more : List (ℕ × ℕ)) → MarksTaken n (marks ++ mark_of w ∷ more) → VoicesTaken n w marks
word_taken n w marks more r =
    let here_w : Mem (mark_of w) (marks ++ mark_of w ∷ more) = Memᴰ.append_right marks (here refl) in
    record {
      few = r.few (simp length-append (omega arith));
      below = r.below (mark_of w) here_w;
      voices = r.voices (mark_of w) here_w;
      first =
          not_in_front (marked_episodes marks) (voices_episode w) (marked_episodes more)
          (rw (map-append (λ (s : ℕ × ℕ). s.0) marks (mark_of w ∷ more)) at r.once);
    }

-- ---- at a place of the log

-- `voices_onwards` at a place of the log `l`
abbrev pub voices_at : Ceilings → List ℕ → ℕ → ℕ → List (ℕ × ℕ) → Answer (ℕ × ℕ)
voices_at m l n p marks = voices_onwards m n p (get_or l p 0) (drop (p + 1) l) marks

module _ (m : Ceilings) (l : List ℕ) (n p : ℕ) (marks : List (ℕ × ℕ)) where
  -- at a voices word, its questions and then those of the words behind it
  pub voices_between : p + 1 < length l → kind (get_or l p 0) ≡ 9
      → voices_at m l n p marks ≡ and_then (voices_asked n p (get_or l p 0) marks) (voices_at m l n (p + 1) (marks ++ mark_of (get_or l p 0) ∷ []))
  unfolding voices_onwards
  voices_between h k = rw (drop_at l (p + 1) h) (rw (k, voices_onwards))

  -- at another word, and at the last one, 4 to 10
  pub voices_stop : (p + 1 < length l → kind (get_or l p 0) ≢ 9) → voices_at m l n p marks ≡ onwards_at m l n p false 0
  unfolding voices_onwards
  voices_stop h = by_place (ltb (p + 1) (length l)) refl
    where
      by_place : (b : Bool) → ltb (p + 1) (length l) ≡ b → voices_at m l n p marks ≡ onwards_at m l n p false 0
      by_place true e =
          let inner : p + 1 < length l = ltb-true (p + 1) (length l) e in
          rw (drop_at l (p + 1) inner) (rw (ne_eqb (kind (get_or l p 0)) 9 (h inner), voices_onwards))
      by_place false e = let past : length l ≤ p + 1 = ltb-false (p + 1) (length l) e in rw (drop_of_length-le l past)

-- the marks of the words before the next place
pub before_voices : (l : List ℕ) (p : ℕ) → 0 < p → p < length l → kind (get_or l p 0) ≡ 9
    → marks_of (before l (p + 1)) ≡ marks_of (before l p) ++ mark_of (get_or l p 0) ∷ []
before_voices l p h g k =
    ap marks_of (before_next l p h g) ∙ marks_append (before l p) (get_or l p 0 ∷ [])
    ∙ ap (λ (ss : List (ℕ × ℕ)). marks_of (before l p) ++ ss) (marks_voices (get_or l p 0) [] k ∙ rw marks_nil)

-- behind the head and before `p` stand voices words alone, and what is left to ask at `p` is what is left behind the head
pub record AtVoices (m : Ceilings) (l : List ℕ) (n p : ℕ) : Type 0 where
  pub behind : 0 < p
  pub within : p < length l
  pub voices : (q : ℕ) → 0 < q → q < p → kind (get_or l q 0) ≡ 9
  pub same : voices_from_head m l n ≡ voices_at m l n p (marks_of (before l p))

no_words : (l : List ℕ) → before l 1 ≡ []
no_words [] = refl
no_words (w ∷ l) = refl

pub behind_first : (m : Ceilings) (l : List ℕ) (n : ℕ) → 2 ≤ length l → AtVoices m l n 1
behind_first m l n h =
    record {
      behind = omega arith;
      within = omega arith;
      voices = λ q a b. absurd (omega arith);
      same = ap (voices_at m l n 1) (sym (ap marks_of (no_words l) ∙ marks_nil));
    }

-- no episode is noted behind the head; behind a voices word its own is
pub noted_first : (l : List ℕ) → Noted (replicate most_with_voices false) (marks_of (before l 1))
unfolding marked
noted_first l =
    rw (no_words l, marks_nil) (λ v h. get_or-replicate most_with_voices v false false h)

pub noted_next : (l : List ℕ) (p : ℕ) (seen : List Bool) (v : ℕ) → 0 < p → p < length l → kind (get_or l p 0) ≡ 9 → v < length seen
    → v ≡ voices_episode (get_or l p 0) → Noted seen (marks_of (before l p)) → Noted (set seen v true) (marks_of (before l (p + 1)))
noted_next l p seen v h g k low e noted = rw (before_voices l p h g k) (λ u below. here u below (ℕ_discrete u v))
  where
    here : (u : ℕ) → u < most_with_voices → Dec (u ≡ v)
        → get_or (set seen v true) u false ≡ marked u (marks_of (before l p) ++ mark_of (get_or l p 0) ∷ [])
    here u below (yes same) =
        rw (same, e)
        (get_or-set_same seen (voices_episode (get_or l p 0)) true false (rw e at low) ∙ sym (marked_new (mark_of (get_or l p 0)) (marks_of (before l p))))
    here u below (no ne) =
        get_or-set_other seen v u true false ne ∙ noted u below
        ∙ sym (marked_old (mark_of (get_or l p 0)) (marks_of (before l p)) u (λ same. ne (same ∙ sym e)))

module _ (m : Ceilings) (l : List ℕ) (n p : ℕ) (v : AtVoices m l n p) (inner : p + 1 < length l) (k : kind (get_or l p 0) ≡ 9) where
  -- behind a voices word that is taken the next word is left to ask
  pub behind_voices_word : (a : ℕ × ℕ × ℕ) → given a ≡ voices_asked n p (get_or l p 0) (marks_of (before l p)) → AtVoices m l n (p + 1)
  behind_voices_word a e =
      record {
        behind = omega arith;
        within = inner;
        voices = λ q a b. next q a b (ltb q p) refl;
        same = v.same ∙ voices_between m l n p (marks_of (before l p)) inner k ∙ rw (← e) (ap (voices_at m l n (p + 1)) (sym (before_voices l p v.behind v.within k)));
      }
    where
      next : (q : ℕ) → 0 < q → q < p + 1 → (x : Bool) → ltb q p ≡ x → kind (get_or l q 0) ≡ 9
      next q a b true f = v.voices q a (ltb-true q p f)
      next q a b false f = let le = ltb-false q p f in let e : q ≡ p = omega arith in rw e k

  -- one that is refused is the first refusal
  pub voices_given_up : (j q : ℕ) → refused j q ≡ voices_asked n p (get_or l p 0) (marks_of (before l p)) → voices_from_head m l n ≡ refused j q
  voices_given_up j q e = v.same ∙ voices_between m l n p (marks_of (before l p)) inner k ∙ rw (← e)

-- and at another word, or at the last one, 4 to 10 are
pub voices_over : (m : Ceilings) (l : List ℕ) (n p : ℕ) → AtVoices m l n p → (p + 1 < length l → kind (get_or l p 0) ≢ 9)
    → BehindVoices l p × (voices_from_head m l n ≡ onwards_at m l n p false 0)
voices_over m l n p v h =
    (record { behind = v.behind; within = v.within; before = v.voices; none = h }, v.same ∙ voices_stop m l n p (marks_of (before l p)) h)

-- ---- the words behind the head

-- behind a voices word that is taken the next word is asked
voices_step : (m : Ceilings) (n p w : ℕ) (s : List ℕ) (marks : List (ℕ × ℕ)) → 0 < length s → kind w ≡ 9 → VoicesTaken n w marks
    → voices_onwards m n p w s marks ≡ voices_onwards m n (p + 1) (get_or s 0 0) (drop 1 s) (marks ++ mark_of w ∷ [])
unfolding voices_onwards
voices_step m n p w [] marks h k taken = absurd (omega arith)
voices_step m n p w (x ∷ rest) marks h k taken = rw (k, voices_onwards) (rw (taken_given n p w marks taken))

-- another word is asked 4 to 10
voices_none : (m : Ceilings) (n p x : ℕ) (rest : List ℕ) (marks : List (ℕ × ℕ)) → (0 < length rest → kind x ≢ 9)
    → voices_onwards m n p x rest marks ≡ onwards m n p x rest false 0
unfolding voices_onwards
voices_none m n p x [] marks ne = refl
voices_none m n p x (y ∷ rest) marks ne = rw (ne_eqb (kind x) 9 (ne (omega arith)), voices_onwards)

-- behind voices words whose marks are taken the word `x` is asked next, and the words `rest` behind it
pub voices_passed : (m : Ceilings) (n p : ℕ) (ws : List ℕ) (x : ℕ) (rest : List ℕ) (marks : List (ℕ × ℕ)) → All (λ w. kind w ≡ 9) ws
    → MarksTaken n (marks ++ marks_of ws) → (0 < length rest → kind x ≢ 9)
    → voices_onwards m n p (get_or (ws ++ x ∷ rest) 0 0) (drop 1 (ws ++ x ∷ rest)) marks ≡ onwards m n (p + length ws) x rest false 0
voices_passed m n p [] x rest marks h r ne = rw add-zero (voices_none m n p x rest marks ne)
voices_passed m n p (w ∷ ws) x rest marks h r ne =
    let k = h w (here refl) in
    let long : 0 < length (ws ++ x ∷ rest) = simp length-append (omega arith) in
    let all : MarksTaken n (marks ++ mark_of w ∷ marks_of ws) = rw (marks_voices w ws k) at r in
    let same : p + 1 + length ws ≡ p + suc (length ws) = omega arith in
    voices_step m n p w (ws ++ x ∷ rest) marks long k (word_taken n w marks (marks_of ws) all)
    ∙ rw same at (voices_passed m n (p + 1) ws x rest (marks ++ mark_of w ∷ []) (λ y i. h y (there i))
    (rw (append_assoc marks (mark_of w ∷ []) (marks_of ws)) all) ne)

-- what is asked behind a head
pub questions_head : (m : Ceilings) (h : ℕ) (s : List ℕ) → 0 < length s
    → questions m (h ∷ s) ≡ and_then (head_word m h) (voices_onwards m (head_episodes h) 1 (get_or s 0 0) (drop 1 s) [])
unfolding questions
questions_head m h [] long = absurd (omega arith)
questions_head m h (x ∷ rest) long = refl

-- so it is of a whole log
pub questions_passed : (m : Ceilings) (h : ℕ) (ws : List ℕ) (x : ℕ) (rest : List ℕ) → All (λ w. kind w ≡ 9) ws → MarksTaken (head_episodes h) (marks_of ws)
    → (0 < length rest → kind x ≢ 9)
    → questions m (h ∷ ws ++ x ∷ rest) ≡ and_then (head_word m h) (onwards m (head_episodes h) (1 + length ws) x rest false 0)
questions_passed m h ws x rest k r ne =
    questions_head m h (ws ++ x ∷ rest) (simp length-append (omega arith))
    ∙ ap (and_then (head_word m h)) (voices_passed m (head_episodes h) 1 ws x rest [] k r ne)
