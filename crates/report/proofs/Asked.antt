-- The questions before 13, for whatever `need` says of the output: they are answered yes exactly when those of the log are and the lent buffers
-- are long enough.
use mathlib.Core.Path.{◌≡◌, refl, sym, ap, ◌∙◌}
use mathlib.Core.Logic.{◌≢◌}
use mathlib.Core.Bool.{Bool, true, false, not, ◌||◌}
use mathlib.Core.List.{List, [], ◌∷◌, ◌++◌}
use Prim.Native.Nat.{ℕ, ◌+◌, ◌≤◌}
use native.Mathlib.Omega.{arith}
use lib.Dec.{leb, ltb, eqb}
use borrow.Author.Tests.{le-leb, leb-true}
use Rattle.logs.specs.Words.{kind, number, head_episodes, head_version, voices_episode, voices_given}
use Rattle.logs.specs.Answer.{Answer, given, refused, question, and_then}
use Rattle.logs.specs.Log.{
  is_from,
  is_to,
  is_voices,
  most_with_voices,
  most_voices,
  to_before_last,
  figure,
  head_word,
  group_word,
  end_word,
  counted,
  onwards,
  marked,
  voices_asked,
  voices_onwards,
  questions,
  voices_count,
}
use Rattle.logs.specs.declared.Ceilings.{Ceilings}
use Rattle.report.specs.Report.{work_words, lent, asked}

-- a question that leads to what is given was answered yes
yes_given : (k p : ℕ) (b : Bool) (next : Answer (ℕ × ℕ)) (a : ℕ × ℕ) → question k p b next ≡ given a → (b ≡ true) × (next ≡ given a)
yes_given k p true next a e = (refl, e)
yes_given k p false next a e = let none : ◌≡◌ {A = ℕ} 0 1 = cc in absurd (omega arith)

-- where questions 1 to 10 and 18 to 21 are answered yes, 11 and 12 decide
pub asked_read : (m : Ceilings) (need : ℕ → ℕ → ℕ → ℕ) (l : List ℕ) (out work n t : ℕ) → questions m l ≡ given (n, t)
    → asked m need l out work ≡ lent (need n t (voices_count l)) out work (given (n, t))
unfolding asked
asked_read m need l out work n t e = rw (e, asked)

module _ (m : Ceilings) (need : ℕ → ℕ → ℕ → ℕ) (l : List ℕ) (out work n t : ℕ) where
  pub asked_passes : questions m l ≡ given (n, t) → need n t (voices_count l) ≤ out → work_words ≤ work → asked m need l out work ≡ given (n, t)
  asked_passes e enough room = asked_read m need l out work n t e ∙ rw (le-leb (need n t (voices_count l)) out enough, le-leb work_words work room)

  pub asked_given : asked m need l out work ≡ given (n, t) → (questions m l ≡ given (n, t)) × (need n t (voices_count l) ≤ out) × (work_words ≤ work)
  unfolding asked
  asked_given e = go (questions m l) refl
    where
      go : (a : Answer (ℕ × ℕ)) → questions m l ≡ a → (questions m l ≡ given (n, t)) × (need n t (voices_count l) ≤ out) × (work_words ≤ work)
      go (refused q p) f =
          let same : ◌≡◌ {A = Answer (ℕ × ℕ)} (refused q p) (given (n, t)) = sym (rw (f, asked)) ∙ e in
          let none : ◌≡◌ {A = ℕ} 0 1 = cc in
          absurd (omega arith)
      go (given (j, u)) f =
          let same : lent (need j u (voices_count l)) out work (given (j, u)) ≡ given (n, t) = sym (asked_read m need l out work j u f) ∙ e in
          let first =
          yes_given 11 (need j u (voices_count l)) (leb (need j u (voices_count l)) out) (question 12 work_words (leb work_words work) (given (j, u))) (n, t) same in
          let second = yes_given 12 work_words (leb work_words work) (given (j, u)) (n, t) first.1 in
          let pair : ◌≡◌ {A = ℕ × ℕ} (j, u) (n, t) = cc in
          let a : j ≡ n = ap (λ (v : ℕ × ℕ). v.0) pair in
          let b : u ≡ t = ap (λ (v : ℕ × ℕ). v.1) pair in
          (f ∙ second.1, rw (← a, ← b) (leb-true (need j u (voices_count l)) out first.0), leb-true work_words work second.0)

-- where one of them is answered no, that is the refusal
pub asked_denied : (m : Ceilings) (need : ℕ → ℕ → ℕ → ℕ) (l : List ℕ) (out work q p : ℕ) → questions m l ≡ refused q p
    → asked m need l out work ≡ refused q p
unfolding asked
asked_denied m need l out work q p e = rw (e, asked)

-- they look at a log by its own questions and its count of voices words alone
pub asked_same : (m : Ceilings) (need : ℕ → ℕ → ℕ → ℕ) (l l₂ : List ℕ) (out work : ℕ) → questions m l ≡ questions m l₂ → voices_count l ≡ voices_count l₂
    → asked m need l out work ≡ asked m need l₂ out work
asked_same m need l l₂ out work e same = go (questions m l) refl
  where
    go : (a : Answer (ℕ × ℕ)) → questions m l ≡ a → asked m need l out work ≡ asked m need l₂ out work
    go (given (n, t)) f =
        asked_read m need l out work n t f ∙ ap (λ (v : ℕ). lent (need n t v) out work (given (n, t))) same
        ∙ sym (asked_read m need l₂ out work n t (sym e ∙ f))
    go (refused q p) f = asked_denied m need l out work q p f ∙ sym (asked_denied m need l₂ out work q p (sym e ∙ f))

-- an answer that is not refusal 13
abbrev Other : {A : Type 0} → Answer A → Type 0
Other (given a) = Unit
Other (refused q p) = q ≢ 13

other_then : {A B : Type 0} (x : Answer A) (next : Answer B) → Other x → Other next → Other (and_then x next)
other_then (given a) next h g = g
other_then (refused q p) next h g = h

-- a question refuses with its own number, or is followed by the next
other_question : {A : Type 0} (k p : ℕ) (b : Bool) (next : Answer A) → k ≢ 13 → Other next → Other (question k p b next)
other_question k p true next h g = g
other_question k p false next h g = h

head_other : (m : Ceilings) (w : ℕ) → Other (head_word m w)
head_other m w =
    other_question 2 0 (eqb (kind w) 1) _ (omega arith)
    (other_question 18 0 (leb (head_version w) 1) _ (omega arith)
    (other_question 3 0 (leb (head_episodes w) m.episodes) _ (omega arith) tt))

group_other : (m : Ceilings) (n p w : ℕ) (rest : List ℕ) (from : Bool) (t : ℕ) → Other (group_word m n p w rest from t)
unfolding group_word
group_other m n p w rest from t =
    other_question 4 p (is_from w || is_to w) _ (omega arith)
    (other_question 5 p (not (is_to w) || from) _ (omega arith)
    (other_question 6 p (not (is_from w) || to_before_last rest 0) _ (omega arith)
    (other_question 7 p (ltb (figure w) n) _ (omega arith)
    (other_question 8 p (not (is_to w) || leb (t + 1) m.words) _ (omega arith) tt))))

end_other : (p w t : ℕ) → Other (end_word p w t)
unfolding end_word
end_other p w t =
    other_question 9 p (eqb (kind w) 15) _ (omega arith) (other_question 10 p (eqb (number w) t) _ (omega arith) tt)

onwards_other : (m : Ceilings) (n p w : ℕ) (rest : List ℕ) (from : Bool) (t : ℕ) → Other (onwards m n p w rest from t)
unfolding onwards
onwards_other m n p w [] from t = other_then (end_word p w t) (given (n, t)) (end_other p w t) tt
onwards_other m n p w (x ∷ rest) from t =
    other_then (group_word m n p w (x ∷ rest) from t) (onwards m n (p + 1) x rest (from || is_from w) (counted (is_to w) t))
    (group_other m n p w (x ∷ rest) from t)
    (onwards_other m n (p + 1) x rest (from || is_from w) (counted (is_to w) t))

voices_other : (n p w : ℕ) (marks : List (ℕ × ℕ)) → Other (voices_asked n p w marks)
unfolding voices_asked
voices_other n p w marks =
    other_question 20 p (leb n most_with_voices) _ (omega arith)
    (other_question 7 p (ltb (voices_episode w) n) _ (omega arith)
    (other_question 19 p (leb (voices_given w) most_voices) _ (omega arith)
    (other_question 21 p (not (marked (voices_episode w) marks)) _ (omega arith) tt)))

behind_head_other : (m : Ceilings) (n p w : ℕ) (rest : List ℕ) (marks : List (ℕ × ℕ)) → Other (voices_onwards m n p w rest marks)
unfolding voices_onwards
behind_head_other m n p w [] marks = onwards_other m n p w [] false 0
behind_head_other m n p w (x ∷ rest) marks = go (is_voices w) (behind_head_other m n (p + 1) x rest (marks ++ (voices_episode w, voices_given w) ∷ []))
  where
    next : Answer (ℕ × ℕ)
    next = voices_onwards m n (p + 1) x rest (marks ++ (voices_episode w, voices_given w) ∷ [])

    go : (b : Bool) → Other next
        → Other {A = ℕ × ℕ} (elim b [ true ↦ and_then (voices_asked n p w marks) next | false ↦ onwards m n p w (x ∷ rest) false 0 ])
    go true more = other_then (voices_asked n p w marks) next (voices_other n p w marks) more
    go false more = onwards_other m n p w (x ∷ rest) false 0

questions_other : (m : Ceilings) (l : List ℕ) → Other (questions m l)
unfolding questions
questions_other m [] = omega arith
questions_other m (w ∷ []) = omega arith
questions_other m (w ∷ x ∷ rest) =
    other_then (head_word m w) (voices_onwards m (head_episodes w) 1 x rest []) (head_other m w) (behind_head_other m (head_episodes w) 1 x rest [])

-- the questions before 13 do not refuse with it
pub asked_other : (m : Ceilings) (need : ℕ → ℕ → ℕ → ℕ) (l : List ℕ) (out work q p : ℕ) → asked m need l out work ≡ refused q p → q ≢ 13
unfolding asked
asked_other m need l out work q p e = rw e at (go (questions m l) refl)
  where
    go : (a : Answer (ℕ × ℕ)) → questions m l ≡ a → Other (asked m need l out work)
    go (refused k j) f = rw (f, asked) (rw f at (questions_other m l))
    go (given (n, t)) f =
        rw (asked_read m need l out work n t f)
        (other_question 11 (need n t (voices_count l)) (leb (need n t (voices_count l)) out) _ (omega arith) (other_question 12 work_words (leb work_words work) _ (omega arith) tt))
