-- Passing over the groups of a log: what holds where a group begins or the log ends, what holds among the to words of a group, and
-- what it takes to go on or to stop.
use mathlib.Core.Path.{◌≡◌, refl, ◌∙◌, ap, sym}
use mathlib.Core.Logic.{◌⊎◌, inl, inr, ⊎_elim}
use mathlib.Core.Bool.{Bool, true, false, true≢false}
use mathlib.Core.List.{List}
use Rattle.std.specs.Prelude.{Result, Ok, Err}
use Prim.Native.Nat.{ℕ, ◌+◌, ◌-◌, ◌<◌, ◌≤◌}
use native.Mathlib.Omega.{arith}
use lib.Dec.{ltb}
use lib.ListN.{length, get_or, drop}
use borrow.Author.Tests.{lt-ltb, ltb-true}
use Rattle.logs.specs.Words.{kind, number, to_episode, to_pause}
use Rattle.logs.specs.Answer.{Answer, given, question, reason_number, result_answer, to_figures, word_figures, word_answer}
use Rattle.logs.specs.Log.{to_before_last, group_word}
use Rattle.logs.specs.Places.{onwards_at, Stopped}
use Rattle.logs.specs.declared.ToWord.{ToWord}
use Rattle.logs.specs.declared.LogWord.{LogWord}
use Rattle.logs.specs.declared.LogWord.TheVariants.{From, To, End}
use Rattle.logs.specs.declared.Refusal.{Refusal}
use Rattle.logs.specs.declared.Ceilings.{Ceilings}
use Rattle.logs.proofs.Asked.{behind, asked, to_there, there_to, group_to, group_taken, from_given, FromTaken, ToTaken}
use Rattle.logs.proofs.Places.{word_between, stop_last, stop_refused, step_from, step_to}

-- before `start` stand the head and the voices words; at `p` a group begins, or the last word stands
pub record AtGroup (m : Ceilings) (l : List ℕ) (n start p t : ℕ) : Type 0 where
  pub behind_head : 0 < start
  pub from_start : start ≤ p
  pub within : p < length l
  pub few : t < p
  pub same : onwards_at m l n p (ltb start p) t ≡ onwards_at m l n start false 0
  pub begins : (p ≡ start) ⊎ (to_before_last l p ≡ false)

-- the words of a group have been passed over up to `p`, its from word among them
pub record InGroup (m : Ceilings) (l : List ℕ) (n start p t : ℕ) : Type 0 where
  pub behind_head : 0 < start
  pub behind_from : start < p
  pub within : p < length l
  pub few : t < p
  pub same : onwards_at m l n p true t ≡ onwards_at m l n start false 0

-- two from words that are the same have the same number
pub from_number : {x y : ℕ} → From x ≡ From y → x ≡ y
from_number e = cc e

pub first_group : (m : Ceilings) (l : List ℕ) (n start : ℕ) → 0 < start → start < length l → AtGroup m l n start start 0
first_group m l n start b h =
    record {
      behind_head = b;
      from_start = omega arith;
      within = h;
      few = b;
      same = ap (λ (from : Bool). onwards_at m l n start from 0) (not_below start);
      begins = inl refl;
    }
  where
    not_below : (k : ℕ) → ltb k k ≡ false
    not_below k = by_value (ltb k k) refl
      where
        by_value : (b : Bool) → ltb k k ≡ b → ltb k k ≡ false
        by_value true e = let less = ltb-true k k e in absurd (omega arith)
        by_value false e = e

module _ (m : Ceilings) (l : List ℕ) (n start p t : ℕ) where
  -- a to word does not stand where a group begins: question 5 refuses it as word 1, and behind another group it would be of that group
  no_to : AtGroup m l n start p t → p + 1 < length l → ToTaken m n (get_or l p 0) (ltb start p) t → ⊥
  no_to g h taken =
      let after : start < p = ltb-true start p taken.from_before in
      ⊎_elim (λ first. omega arith) (λ other. true≢false (sym (there_to l p h taken.kind_to) ∙ other)) g.begins

  pub group_ends : InGroup m l n start p t → to_before_last l p ≡ false → AtGroup m l n start p t
  group_ends g other =
      record {
        behind_head = g.behind_head;
        from_start = omega (arith, g.behind_from);
        within = g.within;
        few = g.few;
        same = rw (lt-ltb start p g.behind_from) g.same;
        begins = inr other;
      }

  pub at_last : AtGroup m l n start p t → length l ≤ p + 1 → Stopped m l n start p t
  at_last g h =
      record {
        within = g.within;
        answer = sym g.same ∙ stop_last m l n p (ltb start p) t h;
        ended = inl (omega (arith, g.within));
      }

  -- of the word where a group begins, 4 to 8 are asked
  module _ (g : AtGroup m l n start p t) (h : p + 1 < length l) (r : Result LogWord Refusal)
      (e : word_answer r ≡ group_word m n p (get_or l p 0) (drop (p + 1) l) (ltb start p) t) where
    -- it is taken as a from word
    is_taken : (w : LogWord) → r ≡ Ok w → FromTaken n (get_or l p 0) (drop (p + 1) l)
    is_taken w is =
        ⊎_elim (λ taken. taken) (λ taken. absurd (no_to g h taken))
        (group_taken m n p (get_or l p 0) (drop (p + 1) l) (ltb start p) t (word_figures w) (sym e ∙ ap word_answer is))

    pub from_taken : (w : LogWord) → r ≡ Ok w → InGroup m l n start (p + 1) t × (to_before_last l (p + 1) ≡ true)
    from_taken w is =
        let taken = is_taken w is in (
          record {
            behind_head = g.behind_head;
            behind_from = omega (arith, g.from_start);
            within = h;
            few = omega arith;
            same = sym (step_from m l n p (ltb start p) t (word_figures w) h (sym e ∙ ap word_answer is) taken.kind_from) ∙ g.same;
          },
          sym (behind l (p + 1)) ∙ taken.to_follows,
        )

    -- it is told as one, with its number
    pub from_told : (w : LogWord) → r ≡ Ok w → w ≡ From (number (get_or l p 0))
    from_told w is =
        by_figures w
        (cc (sym (ap word_answer is) ∙ e
        ∙ from_given m n p (get_or l p 0) (drop (p + 1) l) (ltb start p) t (is_taken w is)))
      where
        by_figures : (w : LogWord) → ◌≡◌ {A = ℕ × ℕ × ℕ} (word_figures w) (2, number (get_or l p 0), 0) → w ≡ From (number (get_or l p 0))
        by_figures (From x) f = ap From (ap (λ (v : ℕ × ℕ × ℕ). v.1) f)
        by_figures (To x) f = let three : ◌≡◌ {A = ℕ} 3 2 = ap (λ (v : ℕ × ℕ × ℕ). v.0) f in absurd (omega arith)
        by_figures (End x) f = let fifteen : ◌≡◌ {A = ℕ} 15 2 = ap (λ (v : ℕ × ℕ × ℕ). v.0) f in absurd (omega arith)

    -- it gives an episode
    pub from_episode : (w : LogWord) → r ≡ Ok w → (kind (get_or l p 0) ≡ 2) × (number (get_or l p 0) < n)
    from_episode w is = let taken = is_taken w is in (taken.kind_from, taken.below)

    pub from_given_up : (f : Refusal) → r ≡ Err f → Stopped m l n start p t
    from_given_up f is =
        let given_up = sym e ∙ ap word_answer is in
        record {
          within = g.within;
          answer = sym g.same ∙ stop_refused m l n p (ltb start p) t (reason_number f.reason) f.place h given_up;
          ended = inr (reason_number f.reason, f.place, word_between m l n p (ltb start p) t h ∙ given_up);
        }

  -- of a to word behind its group's from word, 7 and 8 are left to ask
  module _ (g : InGroup m l n start p t) (to_here : to_before_last l p ≡ true) (r : Result ToWord Refusal)
      (e : result_answer to_figures r
      ≡ question 7 p (ltb (to_episode (get_or l p 0)) n)
      (question 8 p (ltb t m.words) (given (3, to_episode (get_or l p 0), to_pause (get_or l p 0))))) where
    all_asked : result_answer to_figures r ≡ group_word m n p (get_or l p 0) (drop (p + 1) l) true t
    all_asked = e ∙ sym (group_to m n p (get_or l p 0) (drop (p + 1) l) true t (to_there l p to_here).1)

    pub to_taken : (w : ToWord) → r ≡ Ok w → InGroup m l n start (p + 1) (t + 1)
    to_taken w is =
        let there = to_there l p to_here in
        record {
          behind_head = g.behind_head;
          behind_from = omega (arith, g.behind_from);
          within = there.0;
          few = omega arith;
          same = sym (step_to m l n p true t (to_figures w) there.0 (sym all_asked ∙ ap (result_answer to_figures) is) there.1) ∙ g.same;
        }

    -- it gives its episode and its pause
    pub to_read : (w : ToWord) → r ≡ Ok w → (w.episode ≡ to_episode (get_or l p 0)) × (w.pause ≡ to_pause (get_or l p 0)) × (w.episode < n)
    to_read w is =
        let next : Answer (ℕ × ℕ × ℕ) = question 8 p (ltb t m.words) (given (3, to_episode (get_or l p 0), to_pause (get_or l p 0))) in
        let seven = asked 7 p (ltb (to_episode (get_or l p 0)) n) next (to_figures w) (sym e ∙ ap (result_answer to_figures) is) in
        let eight = asked 8 p (ltb t m.words) (given (3, to_episode (get_or l p 0), to_pause (get_or l p 0))) (to_figures w) seven.1 in
        let same : ◌≡◌ {A = ℕ × ℕ × ℕ} (to_figures w) (3, to_episode (get_or l p 0), to_pause (get_or l p 0)) = cc eight.1 in
        let episode : w.episode ≡ to_episode (get_or l p 0) = ap (λ (v : ℕ × ℕ × ℕ). v.1) same in
        (episode, ap (λ (v : ℕ × ℕ × ℕ). v.2) same, omega (arith, ltb-true (to_episode (get_or l p 0)) n seven.0))

    pub to_given_up : (f : Refusal) → r ≡ Err f → Stopped m l n start p t
    to_given_up f is =
        let there = to_there l p to_here in
        let given_up = sym all_asked ∙ ap (result_answer to_figures) is in
        record {
          within = g.within;
          answer = rw (lt-ltb start p g.behind_from) (sym g.same ∙ stop_refused m l n p true t (reason_number f.reason) f.place there.0 given_up);
          ended = inr (reason_number f.reason, f.place, rw (lt-ltb start p g.behind_from) (word_between m l n p true t there.0 ∙ given_up));
        }

-- the place behind a to word, where the to words before it are told by `others`, the words before it that are none
pub group_by_others : (m : Ceilings) (l : List ℕ) (n start p others : ℕ) → others ≤ p → InGroup m l n start (p + 1) (p - others + 1) → InGroup m l n start (p + 1) (p + 1 - others)
group_by_others m l n start p others h g = let same : p - others + 1 ≡ p + 1 - others = omega arith in rw same at g
