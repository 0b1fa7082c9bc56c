-- What is proved of bytes that are taken; the scope's whole example as bytes.
use mathlib.Core.Path.{◌≡◌, refl, ap, sym, ◌∙◌}
use mathlib.Core.List.{List, [], ◌∷◌}
use Prim.Native.Nat.{ℕ, ◌*◌, ◌/◌, ◌%◌, ◌≤◌}
use native.Mathlib.Omega.{arith}
use lib.Dec.{eqb, leb}
use lib.ListN.{length, take, drop}
use lib.Seq.{take_at, drop_at}
use borrow.Author.Tests.{leb-true, eqb-true}
use Rattle.logs.specs.Answer.{given, question}
use Rattle.logs.proofs.Asked.{asked}
use Rattle.input.specs.Input.{most_bytes, words_of, WordsTaken}
use Rattle.std.specs.Prelude.{Ok}

-- four bytes to a word
pub words_count : (b : List ℕ) → length (words_of b) ≡ length b / 4
unfolding words_of
words_count [] = refl
words_count (a ∷ []) = refl
words_count (a ∷ b ∷ []) = refl
words_count (a ∷ b ∷ c ∷ []) = refl
words_count (a ∷ b ∷ c ∷ d ∷ rest) = omega (arith, words_count rest)

-- Bytes that are taken are within the limit and four for each word, and the lent words are enough. Afterwards these begin with the words of
-- the bytes and are behind them as they were.
pub record InWords (b w w' : List ℕ) (n : ℕ) : Type 0 where
  pub within : length b ≤ most_bytes
  pub fours : length b ≡ 4 * n
  pub enough : n ≤ length w
  pub words : take n w' ≡ words_of b
  pub behind : drop n w' ≡ drop n w

pub bytes_in_words : (b w w' : List ℕ) (n : ℕ) → WordsTaken b w w' (Ok n) → InWords b w w' n
bytes_in_words b w w' n z =
    let k = length b in
    let rest = question 11 (k / 4) (leb (k / 4) (length w)) (given (k / 4)) in
    let a14 = asked 14 most_bytes (leb k most_bytes) (question 15 k (eqb (k % 4) 0) rest) n (sym z.answer) in
    let a15 = asked 15 k (eqb (k % 4) 0) rest n a14.1 in
    let a11 = asked 11 (k / 4) (leb (k / 4) (length w)) (given (k / 4)) n a15.1 in
    let quarter : k / 4 ≡ n = given_same a11.1 in
    let rest_none : k % 4 ≡ 0 = eqb-true (k % 4) 0 a15.0 in
    let count : length (words_of b) ≡ n = words_count b ∙ quarter in
    record {
      within = leb-true k most_bytes a14.0;
      fours = omega arith;
      enough = omega (arith, leb-true (k / 4) (length w) a11.0);
      words = ap (take n) z.words ∙ take_at (words_of b) (drop n w) n count;
      behind = ap (drop n) z.words ∙ drop_at (words_of b) (drop n w) n count;
    }
  where
    given_same : {x y : ℕ} → given x ≡ given y → x ≡ y
    given_same e = cc

-- the 24 bytes of the whole example are its 6 words
pub whole_example :
    words_of (5 ∷ 0 ∷ 0 ∷ 16 ∷ 0 ∷ 0 ∷ 0 ∷ 32 ∷ 1 ∷ 0 ∷ 0 ∷ 48 ∷ 2 ∷ 0 ∷ 0 ∷ 32 ∷ 3 ∷ 0 ∷ 0 ∷ 48 ∷ 2 ∷ 0 ∷ 0 ∷ 240 ∷ [])
    ≡ 0x10000005 ∷ 0x20000000 ∷ 0x30000001 ∷ 0x20000002 ∷ 0x30000003 ∷ 0xF0000002 ∷ []
unfolding words_of
whole_example = refl
