-- The text of words, the first of them in front.
use mathlib.Core.Path.{◌≡◌, refl, ap, ◌∙◌}
use mathlib.Core.Bool.{true, false}
use mathlib.Core.List.{List, [], ◌∷◌, ◌++◌, map}
use Prim.Native.Nat.{ℕ, suc, min, ◌+◌, ◌-◌, ◌≤◌, ◌<◌}
use native.Mathlib.Omega.{arith}
use lib.Chars.{codes}
use lib.Dec.{eqb}
use lib.ListN.{length, get_or, take, drop, drop_of_length-le}
use lib.Seq.{drop-cons}
use borrow.Author.Tests.{eqb-true}
use Rattle.std.proofs.lemmas.Bool.{eqb-false}
use Rattle.std.proofs.lemmas.List.{take_min}
use Rattle.logs.specs.Words.{kind, number}
use Rattle.writing.specs.Layout.{apart_of, threads_of}
use Rattle.writing.proofs.Buffers.{lent_part}
use Rattle.writing.proofs.Layouts.{apart_of_five, apart_of_other, threads_of_six, threads_of_other}
use Rattle.text.specs.Text.{figure, figures, line, thread_lines}

module _ (ws : List ℕ) (i : ℕ) (lt : i < length ws) where
  first : drop i ws ≡ get_or ws i 0 ∷ drop (i + 1) ws
  first = let next : suc i ≡ i + 1 = omega arith in drop-cons ws i 0 lt ∙ ap (λ (k : ℕ). get_or ws i 0 ∷ drop k ws) next

  -- the number of each word is printed
  pub number_first : (n : ℕ) → n ≡ number (get_or ws i 0)
      → figures (map number (drop i ws)) ≡ figure n ++ figures (map number (drop (i + 1) ws))
  number_first n e = rw (first, e) refl

  -- the numbers of apart words alone
  pub apart_first : (n : ℕ) → eqb (kind (get_or ws i 0)) 5 ≡ true → n ≡ number (get_or ws i 0)
      → figures (apart_of (drop i ws)) ≡ figure n ++ figures (apart_of (drop (i + 1) ws))
  apart_first n five e = rw (first, e) (ap figures (apart_of_five (get_or ws i 0) (drop (i + 1) ws) (eqb-true (kind (get_or ws i 0)) 5 five)))

  pub apart_other : eqb (kind (get_or ws i 0)) 5 ≡ false → apart_of (drop i ws) ≡ apart_of (drop (i + 1) ws)
  apart_other other = rw first (apart_of_other (get_or ws i 0) (drop (i + 1) ws) (eqb-false (kind (get_or ws i 0)) 5 other))

  -- a line for each thread word
  pub thread_first : (steps : List ℕ) → eqb (kind (get_or ws i 0)) 6 ≡ true → steps ≡ take (number (get_or ws i 0)) (drop (i + 1) ws)
      → thread_lines (threads_of (drop i ws)) ≡ line (codes "thread") (map number steps) ++ thread_lines (threads_of (drop (i + 1) ws))
  thread_first steps six e = rw (first, e) (ap thread_lines (threads_of_six (get_or ws i 0) (drop (i + 1) ws) (eqb-true (kind (get_or ws i 0)) 6 six)))

  pub thread_other : eqb (kind (get_or ws i 0)) 6 ≡ false → threads_of (drop i ws) ≡ threads_of (drop (i + 1) ws)
  thread_other other = rw first (threads_of_other (get_or ws i 0) (drop (i + 1) ws) (eqb-false (kind (get_or ws i 0)) 6 other))

-- no words are left
module _ (ws : List ℕ) (i : ℕ) (le : length ws ≤ i) where
  none : drop i ws ≡ []
  none = drop_of_length-le ws {i = i} le

  pub apart_end : apart_of (drop i ws) ≡ []
  unfolding apart_of
  apart_end = rw none refl

  pub thread_end : threads_of (drop i ws) ≡ []
  unfolding threads_of
  thread_end = rw none refl

-- the words behind a thread's word, as many as it says or there are
pub steps_taken : (ws : List ℕ) (i c m : ℕ) → c ≡ number (get_or ws i 0) → m ≡ min c (length (take (length ws - (i + 1)) (drop (i + 1) ws)))
    → take m (take (length ws - (i + 1)) (drop (i + 1) ws)) ≡ take (number (get_or ws i 0)) (drop (i + 1) ws)
steps_taken ws i c m e f = rw (f, lent_part ws (i + 1), e) (take_min (number (get_or ws i 0)) (drop (i + 1) ws))
