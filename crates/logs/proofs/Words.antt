-- A word is its kind and its number, a head its version and its episodes, a to word its episode and its pause, and a voices word its episode and its
-- voices.
use mathlib.Core.Path.{◌≡◌}
use mathlib.Core.Bool.{true, false}
use Prim.Native.Nat.{ℕ, ◌+◌, ◌*◌, ◌<◌, ◌^◌}
use native.Mathlib.Omega.{arith}
use lib.Dec.{eqb}
use borrow.Author.Tests.{eqb-true, eqb-false, eq-eqb}
use Rattle.logs.specs.Words.{kind, number, word, Small, head_episodes, head_version, head_of, to_episode, to_pause, to_word, voices_episode, voices_given, voices_word, kind_code}
use Rattle.logs.specs.declared.Kind.{Kind}
use Rattle.logs.specs.Log.{figure, minutes}

pub kind_word : (k x : ℕ) → x < 2 ^ 28 → kind (word k x) ≡ k
kind_word k x h = omega arith

pub number_word : (k x : ℕ) → x < 2 ^ 28 → number (word k x) ≡ x
number_word k x h = omega arith

pub word_kind_number : (w : ℕ) → word (kind w) (number w) ≡ w
word_kind_number w = omega arith

pub number_lt : (w : ℕ) → number w < 2 ^ 28
number_lt w = omega arith

-- the kind of a word, as it is tested
module _ (k : Kind) (w : ℕ) where
  pub kind_tested : eqb (kind w) (kind_code k) ≡ true → kind w ≡ kind_code k
  kind_tested = eqb-true (kind w) (kind_code k)

  pub kind_passes : kind w ≡ kind_code k → eqb (kind w) (kind_code k) ≡ true
  kind_passes = eq-eqb (kind w) (kind_code k)

  pub kind_differs : eqb (kind w) (kind_code k) ≡ false → kind w ≡ kind_code k → ⊥
  kind_differs = eqb-false (kind w) (kind_code k)

-- the word of a kind with a number
module _ (k : Kind) (x : ℕ) (small : Small x) where
  pub word_kind : kind (word (kind_code k) x) ≡ kind_code k
  word_kind = kind_word (kind_code k) x small

  pub word_number : number (word (kind_code k) x) ≡ x
  word_number = number_word (kind_code k) x small

-- a head is made of its two figures, which must fit
module _ (v n : ℕ) (high : v < 2 ^ 4) (low : n < 2 ^ 24) where
  pub head_kind : kind (head_of v n) ≡ 1
  head_kind = omega arith

  pub head_version_lem : head_version (head_of v n) ≡ v
  head_version_lem = omega arith

  pub head_episodes_lem : head_episodes (head_of v n) ≡ n
  head_episodes_lem = omega arith

pub head_unversioned : (n : ℕ) → head_of 0 n ≡ word 1 n
head_unversioned n = omega arith

-- a to word is made of its two figures, which must fit
module _ (b p : ℕ) (fits : b < 2 ^ 16) (short : p < 2 ^ 12) where
  pub to_kind : kind (to_word b p) ≡ 3
  to_kind = omega arith

  pub to_episode_lem : to_episode (to_word b p) ≡ b
  to_episode_lem = omega arith

  pub to_pause_lem : to_pause (to_word b p) ≡ p
  to_pause_lem = omega arith

-- as it is computed
pub to_sum : (b p : ℕ) → 3 * 2 ^ 28 + p * 2 ^ 16 + b ≡ to_word b p
to_sum b p = omega arith

pub to_unpaused_lem : (b : ℕ) → to_word b 0 ≡ word 3 b
to_unpaused_lem b = omega arith

-- a voices word is made of its two figures, which must fit
module _ (v c : ℕ) (fits : v < 2 ^ 16) (few : c < 2 ^ 12) where
  pub voices_kind : kind (voices_word v c) ≡ 9
  voices_kind = omega arith

  pub voices_episode_lem : voices_episode (voices_word v c) ≡ v
  voices_episode_lem = omega arith

  pub voices_given_lem : voices_given (voices_word v c) ≡ c
  voices_given_lem = omega arith

-- as it is computed
pub voices_sum : (v c : ℕ) → 9 * 2 ^ 28 + c * 2 ^ 16 + v ≡ voices_word v c
voices_sum v c = omega arith

-- what question 7 looks at, and the pause, by kind
module _ (w : ℕ) where
  pub figure_from : kind w ≡ 2 → figure w ≡ number w
  figure_from k = rw (k, figure)

  pub figure_to : kind w ≡ 3 → figure w ≡ to_episode w
  figure_to k = rw (k, figure)

  pub minutes_from : kind w ≡ 2 → minutes w ≡ 0
  minutes_from k = rw (k, minutes)

  pub minutes_to : kind w ≡ 3 → minutes w ≡ to_pause w
  minutes_to k = rw (k, minutes)
