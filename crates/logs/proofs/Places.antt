-- The questions at a place of the log: what the word there answers, and what is left to ask behind it.
use mathlib.Core.Path.{◌≡◌, ◌∙◌}
use mathlib.Core.Bool.{Bool, true, ◌||◌, or-true, or-false}
use mathlib.Core.List.{List, ◌∷◌}
use Prim.Native.Nat.{ℕ, ◌+◌, ◌<◌, ◌≤◌}
use native.Mathlib.Numerals.{add-one}
use native.Mathlib.Omega.{arith}
use Rattle.std.proofs.lemmas.List.{get_or_past}
use lib.ListN.{length, get_or, drop, drop_of_length-le}
use lib.Seq.{drop-cons}
use Rattle.logs.specs.Words.{kind}
use Rattle.logs.specs.Answer.{given, refused, and_then}
use Rattle.logs.specs.Log.{is_from, is_to, group_word, end_word, counted, onwards}
use Rattle.logs.specs.Places.{log_word_at, onwards_at}
use Rattle.logs.specs.declared.Ceilings.{Ceilings}

pub drop_at : (l : List ℕ) (p : ℕ) → p < length l → drop p l ≡ get_or l p 0 ∷ drop (p + 1) l
drop_at l p h = rw (add-one, drop-cons l p 0)

module _ (m : Ceilings) (l : List ℕ) (n p : ℕ) (from : Bool) (t : ℕ) where
  pub word_between : p + 1 < length l → log_word_at m l n p from t ≡ group_word m n p (get_or l p 0) (drop (p + 1) l) from t
  word_between h = rw (drop_at l (p + 1) h)

  pub word_last : length l ≤ p + 1 → log_word_at m l n p from t ≡ end_word p (get_or l p 0) t
  word_last h = rw (drop_of_length-le l h)

  -- behind the log stands no end
  pub word_behind : length l ≤ p → log_word_at m l n p from t ≡ refused 9 p
  unfolding end_word
  word_behind h =
      let past : length l ≤ p + 1 = omega arith in
      rw (drop_of_length-le l past, get_or_past l p 0 h)

  pub onwards_between : p + 1 < length l
      → onwards_at m l n p from t ≡ and_then (log_word_at m l n p from t) (onwards_at m l n (p + 1) (from || is_from (get_or l p 0)) (counted (is_to (get_or l p 0)) t))
  unfolding onwards
  onwards_between h = rw (drop_at l (p + 1) h)

  -- at the last word, and at one that is refused, nothing is asked behind it
  pub stop_last : length l ≤ p + 1 → onwards_at m l n p from t ≡ and_then (log_word_at m l n p from t) (given (n, t))
  unfolding onwards
  stop_last h = rw (drop_of_length-le l h)

  pub stop_refused : (k q : ℕ) → p + 1 < length l → group_word m n p (get_or l p 0) (drop (p + 1) l) from t ≡ refused k q
      → onwards_at m l n p from t ≡ and_then (log_word_at m l n p from t) (given (n, t))
  stop_refused k q h e = onwards_between h ∙ rw (word_between h, e)

  -- behind a from word, and behind a to word, that is taken
  pub step_from : (a : ℕ × ℕ × ℕ) → p + 1 < length l → group_word m n p (get_or l p 0) (drop (p + 1) l) from t ≡ given a → kind (get_or l p 0) ≡ 2
      → onwards_at m l n p from t ≡ onwards_at m l n (p + 1) true t
  step_from a h e k = onwards_between h ∙ rw (word_between h, e, k, or-true)

  pub step_to : (a : ℕ × ℕ × ℕ) → p + 1 < length l → group_word m n p (get_or l p 0) (drop (p + 1) l) from t ≡ given a → kind (get_or l p 0) ≡ 3
      → onwards_at m l n p from t ≡ onwards_at m l n (p + 1) from (t + 1)
  step_to a h e k = onwards_between h ∙ rw (word_between h, e, k, or-false)
