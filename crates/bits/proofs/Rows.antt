-- Laws of bits in a list of words: after a word is stored or copied, of the first bit, and of the first new one.
use mathlib.Core.Path.{◌≡◌, refl, sym, ap, ap₂, ◌∙◌}
use mathlib.Core.Logic.{◌≢◌}
use mathlib.Core.Bool.{Bool, true, false, true≢false}
use lib.Dec.{eqb}
use Rattle.std.proofs.lemmas.Bool.{eqb-true, eq-eqb}
use mathlib.Core.List.{List}
use Prim.Native.Nat.{ℕ, ◌+◌, ◌-◌, ◌*◌, ◌/◌, ◌%◌, ◌^◌, ◌≤◌, ◌<◌, max}
use native.Mathlib.Decide.{dec_lt, ℕ_discrete}
use native.Mathlib.Nat.{zero-mul, mod-lt, div-eq_of_lt, div-le_self, zero-lt-suc, lt_of_lt_of_le, lt_of_le_of_lt}
use native.Mathlib.Omega.{arith}
use lib.ListN.{length, get_or, set, length-set}
use lib.Seq.{get_or-set_same, get_or-set_other, set-get_or}
use lib.Pow.{pow_mono}
use lib.Bits.{bit_or, or_zero_r}
use lib.Count.{count_trailing_zeros}
use mir.Val.{bool_byte}
use Rattle.bits.specs.Bits.{digit, bit, BitSet, SetWhere, RowAdded, RowLess, NextNew}
use Rattle.bits.proofs.Digits.{mask, digit_lt, digit_or, digit_shr, digit_one, digit_other, digit_trailing, digit_below, digit_none}

pub bit_lt : (w : List ℕ) (row b : ℕ) → bit w row b < 2
unfolding bit
bit_lt w row b = digit_lt (get_or w (row + b / 32) 0) (b % 32)

-- what the test of a bit tells
pub bit_here : (w : List ℕ) (row b : ℕ) → true ≡ eqb (bit w row b) 1 → bit w row b ≡ 1
bit_here w row b e = eqb-true (bit w row b) 1 (sym e)

pub bit_unset : (w : List ℕ) (row b : ℕ) → false ≡ eqb (bit w row b) 1 → bit w row b ≡ 0
bit_unset w row b e =
    let not_one : bit w row b ≡ 1 → ⊥ = λ o. true≢false (sym (eq-eqb (bit w row b) 1 o) ∙ sym e) in
    omega (arith, bit_lt w row b, not_one)

-- a bit is what its word makes it
pub bit_word : (w w' : List ℕ) (row b : ℕ) → get_or w' (row + b / 32) 0 ≡ get_or w (row + b / 32) 0 → bit w' row b ≡ bit w row b
unfolding bit
bit_word w w' row b e = ap (λ (x : ℕ). digit x (b % 32)) e

-- the bits of a row, from word to word
pub bits_words : (w w' : List ℕ) (row b : ℕ) → b < 256 → ((i : ℕ) → row ≤ i → i < row + 8 → get_or w' i 0 ≡ get_or w i 0) → bit w' row b ≡ bit w row b
bits_words w w' row b h f = bit_word w w' row b (f (row + b / 32) (omega arith) (omega arith))

pub bits_zero : (w : List ℕ) (row b : ℕ) → get_or w (row + b / 32) 0 ≡ 0 → bit w row b ≡ 0
unfolding bit
bits_zero w row b e =
    ap (λ (x : ℕ). digit x (b % 32)) e ∙ digit_none (b % 32)

-- the words of all rows of a matrix that hold their bit `b` stand 8 words apart
pub bit_column : (w : List ℕ) (base a b : ℕ) → bit w (base + 8 * a) b ≡ digit (get_or w (base + b / 32 + 8 * a) 0) (b % 32)
unfolding bit
bit_column w base a b =
    let e : base + 8 * a + b / 32 ≡ base + b / 32 + 8 * a = omega arith in
    ap (λ (i : ℕ). digit (get_or w i 0) (b % 32)) e

-- ---- one bit set

pub set_bit_law : (w : List ℕ) (row b : ℕ) → row + b / 32 < length w
    → BitSet w (set w (row + b / 32) (bit_or (get_or w (row + b / 32) 0) (1 * 2 ^ (b % 32) % 4294967296))) row b
unfolding bit
set_bit_law w row b h =
    record {
      same_length = length-set w at stored;
      words = λ i ne. get_or-set_other w at i stored 0 ne;
      here =
          ap (λ (x : ℕ). digit x (b % 32)) new ∙ digit_or old (2 ^ (b % 32)) (b % 32)
          ∙ (let o : digit (2 ^ (b % 32)) (b % 32) ≡ 1 = digit_one (b % 32) in
          let l : digit old (b % 32) < 2 = digit_lt old (b % 32) in omega arith);
      others = λ c ne. others c ne (ℕ_discrete (c / 32) (b / 32));
    }
  where
    at : ℕ
    at = row + b / 32

    old : ℕ
    old = get_or w at 0

    stored : ℕ
    stored = bit_or old (1 * 2 ^ (b % 32) % 4294967296)

    w' : List ℕ
    w' = set w at stored

    new : get_or w' at 0 ≡ bit_or old (2 ^ (b % 32))
    new = get_or-set_same w at stored 0 h ∙ ap (bit_or old) (mask (b % 32) (mod-lt b (zero-lt-suc 31)))

    others : (c : ℕ) → c ≢ b → Dec (c / 32 ≡ b / 32) → digit (get_or w' (row + c / 32) 0) (c % 32) ≡ digit (get_or w (row + c / 32) 0) (c % 32)
    others c ne (no far) = ap (λ (x : ℕ). digit x (c % 32)) (get_or-set_other w at (row + c / 32) stored 0 (λ e. far (omega arith)))
    others c ne (yes e) =
        let same : row + c / 32 ≡ at = omega arith in
        let z : digit (2 ^ (b % 32)) (c % 32) ≡ 0 = digit_other (b % 32) (c % 32) (λ f. ne (omega arith)) in
        rw same (ap (λ (x : ℕ). digit x (c % 32)) new ∙ digit_or old (2 ^ (b % 32)) (c % 32) ∙ omega arith)

-- the same, or none
pub set_where_law : (on : Bool) (w : List ℕ) (row b : ℕ) → row + b / 32 < length w
    → SetWhere on w (set w (row + b / 32) (bit_or (get_or w (row + b / 32) 0) (bool_byte on * 2 ^ (b % 32) % 4294967296))) row b
set_where_law true w row b h = set_bit_law w row b h
set_where_law false w row b h =
    let none : 0 * 2 ^ (b % 32) % 4294967296 ≡ 0 = rw zero-mul in
    rw (none, or_zero_r) (set-get_or w (row + b / 32) 0)

-- ---- a row joined into another

-- the first `i` words of the row of `v` at `to` have those of the row of `w` at `from` joined into them
pub record Joining (w v v' : List ℕ) (to from i : ℕ) : Type 0 where
  pub same_length : length v' ≡ length v
  pub done : (j : ℕ) → j < i → get_or v' (to + j) 0 ≡ bit_or (get_or v (to + j) 0) (get_or w (from + j) 0)
  pub before : (j : ℕ) → j < to → get_or v' j 0 ≡ get_or v j 0
  pub behind : (j : ℕ) → to + i ≤ j → get_or v' j 0 ≡ get_or v j 0

pub joining_none : (w v : List ℕ) (to from : ℕ) → Joining w v v to from 0
joining_none w v to from =
    record { same_length = refl; done = λ j l. absurd (omega arith); before = λ j l. refl; behind = λ j l. refl }

module _ {w v v' : List ℕ} {to from i : ℕ} (s : Joining w v v' to from i) where
  -- one word more, `y` is what the row at `from` has there
  pub joining_more : (y : ℕ) → y ≡ get_or w (from + i) 0 → to + i < length v
      → Joining w v (set v' (to + i) (bit_or (get_or v' (to + i) 0) y)) to from (i + 1)
  joining_more y read fits =
      record {
        same_length = length-set v' (to + i) x ∙ s.same_length;
        done = λ j l. done j l (ℕ_discrete j i);
        before = λ j l. get_or-set_other v' (to + i) j x 0 (λ e. absurd (omega arith)) ∙ s.before j l;
        behind = λ j l. get_or-set_other v' (to + i) j x 0 (λ e. absurd (omega arith)) ∙ s.behind j (omega arith);
      }
    where
      x : ℕ
      x = bit_or (get_or v' (to + i) 0) y

      done : (j : ℕ) → j < i + 1 → Dec (j ≡ i) → get_or (set v' (to + i) x) (to + j) 0 ≡ bit_or (get_or v (to + j) 0) (get_or w (from + j) 0)
      done j l (yes e) =
          rw e (get_or-set_same v' (to + i) x 0 (rw s.same_length fits)
          ∙ ap₂ bit_or (s.behind (to + i) (omega arith)) read)
      done j l (no ne) = get_or-set_other v' (to + i) (to + j) x 0 (λ e. ne (omega arith)) ∙ s.done j (omega arith)

  joined_bit : i ≡ 8 → (b : ℕ) → b < 256 → bit v' to b ≡ max (bit v to b) (bit w from b)
  unfolding bit
  joined_bit e b l = ap (λ (x : ℕ). digit x (b % 32)) (s.done (b / 32) (omega arith)) ∙ digit_or _ _ (b % 32)

pub row_added : {w v v' : List ℕ} {row i : ℕ} → Joining w v v' 0 row i → i ≡ 8 → RowAdded w row v v'
row_added s e = record { same_length = s.same_length; joined = joined_bit s e }

-- ---- the first bit from a place on

-- `r` is the first from `from` on of the 256 bits, or 256
pub record FirstFrom (bits : ℕ → ℕ) (from r : ℕ) : Type 0 where
  pub at_least : from ≤ r
  pub at_most : r ≤ 256
  pub here : r < 256 → bits r ≡ 1
  pub passed : (c : ℕ) → from ≤ c → c < r → bits c ≡ 0

-- the digits of `x` are those of word `i` of the 256 bits
abbrev pub WordOf : (ℕ → ℕ) → ℕ → ℕ → Type 0
WordOf bits i x = (j : ℕ) → j < 32 → digit x j ≡ bits (32 * i + j)

-- the bits of word `i` of a row are its digits
pub bit_digit : (w : List ℕ) (row i j : ℕ) → j < 32 → bit w row (32 * i + j) ≡ digit (get_or w (row + i) 0) j
unfolding bit
bit_digit w row i j h =
    let e : (32 * i + j) / 32 ≡ i = omega arith in
    let f : (32 * i + j) % 32 ≡ j = omega arith in
    rw (e, f)

-- a digit that is one stands below a number's bound
one_below : (x k i : ℕ) → x < 2 ^ k → digit x i ≡ 1 → i < k
one_below x k i h e = go (dec_lt i k)
  where
    go : Dec (i < k) → i < k
    go (yes l) = l
    go (no l) =
        let z : digit x i ≡ 0 = ap (λ (y : ℕ). y % 2) (div-eq_of_lt (lt_of_lt_of_le h (pow_mono (omega arith)))) in
        absurd (omega arith)

-- the word `x` from its digit `s` on
module _ (x s : ℕ) (h : x < 2 ^ 32) where
  shifted_lt : x / 2 ^ s < 2 ^ 32
  shifted_lt = lt_of_le_of_lt (div-le_self x (2 ^ s)) h

  -- its first digit that is one
  module _ (p : 0 < x / 2 ^ s) where
    first_one : digit x (s + count_trailing_zeros 32 (x / 2 ^ s)) ≡ 1
    first_one = sym (digit_shr x s _) ∙ (digit_trailing 32 (x / 2 ^ s) shifted_lt p).1

    first_within : s + count_trailing_zeros 32 (x / 2 ^ s) < 32
    first_within = one_below x 32 _ h first_one

    zeros_before : (j : ℕ) → s ≤ j → j < s + count_trailing_zeros 32 (x / 2 ^ s) → digit x j ≡ 0
    zeros_before j lo hi =
        let e : s + (j - s) ≡ j = omega arith in
        rw e at (sym (digit_shr x s (j - s)) ∙ digit_below 32 (x / 2 ^ s) (j - s) (omega arith))

  zeros_behind : x / 2 ^ s ≡ 0 → (j : ℕ) → s ≤ j → digit x j ≡ 0
  zeros_behind z j lo =
      let e : s + (j - s) ≡ j = omega arith in
      rw e at (sym (digit_shr x s (j - s)) ∙ ap (λ (y : ℕ). digit y (j - s)) z ∙ digit_none (j - s))

pub first_below : (at x : ℕ) → at < 256 → x < 2 ^ 32 → 0 < x / 2 ^ (at % 32) → at + count_trailing_zeros 32 (x / 2 ^ (at % 32)) < 256
first_below at x l h p = omega (arith, first_within x (at % 32) h p)

-- no bit from `from` on and before `at`
pub record NoneFrom (bits : ℕ → ℕ) (from at : ℕ) : Type 0 where
  pub at_least : from ≤ at
  pub at_most : at ≤ 256
  pub passed : (c : ℕ) → from ≤ c → c < at → bits c ≡ 0

pub none_yet : (bits : ℕ → ℕ) (from : ℕ) → from ≤ 256 → NoneFrom bits from from
none_yet bits from h = record { at_least = omega arith; at_most = h; passed = λ c lo hi. absurd (omega arith) }

-- `x` is the word of the bit `at`
module _ (bits : ℕ → ℕ) (from at x : ℕ) (none : NoneFrom bits from at) (l : at < 256) (h : x < 2 ^ 32) (word : WordOf bits (at / 32) x) where
  -- a bit of that word
  in_word : (c : ℕ) → c / 32 ≡ at / 32 → bits c ≡ digit x (c % 32)
  in_word c q = let e : 32 * (at / 32) + c % 32 ≡ c = omega arith in rw e at (sym (word (c % 32) (omega arith)))

  pub none_then_first : 0 < x / 2 ^ (at % 32) → FirstFrom bits from (at + count_trailing_zeros 32 (x / 2 ^ (at % 32)))
  none_then_first p =
      let t : ℕ = count_trailing_zeros 32 (x / 2 ^ (at % 32)) in
      let within = first_within x (at % 32) h p in
      let q : (at + t) % 32 ≡ at % 32 + t = omega arith in
      record {
        at_least = omega (arith, none.at_least);
        at_most = omega arith;
        here = λ _. in_word (at + t) (omega arith) ∙ rw q (first_one x (at % 32) h p);
        passed = λ c lo hi. go c lo hi (dec_lt c at);
      }
    where
      go : (c : ℕ) → from ≤ c → c < at + count_trailing_zeros 32 (x / 2 ^ (at % 32)) → Dec (c < at) → bits c ≡ 0
      go c lo hi (yes b) = none.passed c lo b
      go c lo hi (no b) =
          let within = first_within x (at % 32) h p in
          in_word c (omega arith) ∙ zeros_before x (at % 32) h p (c % 32) (omega arith) (omega arith)

  pub none_then_none : x / 2 ^ (at % 32) ≡ 0 → NoneFrom bits from ((at / 32 + 1) * 32)
  none_then_none z = record { at_least = omega (arith, none.at_least); at_most = omega arith; passed = λ c lo hi. go c lo hi (dec_lt c at) }
    where
      go : (c : ℕ) → from ≤ c → c < (at / 32 + 1) * 32 → Dec (c < at) → bits c ≡ 0
      go c lo hi (yes b) = none.passed c lo b
      go c lo hi (no b) = in_word c (omega arith) ∙ zeros_behind x (at % 32) h z (c % 32) (omega arith)

pub none_at_all : {bits : ℕ → ℕ} {from at : ℕ} → NoneFrom bits from at → 256 ≤ at → FirstFrom bits from 256
none_at_all none h =
    record {
      at_least = omega (arith, none.at_least, none.at_most);
      at_most = omega arith;
      here = λ l. absurd (omega arith);
      passed = λ c lo hi. none.passed c lo (omega arith);
    }

-- ---- the bits that are new

-- what one row has and another has not, in its word `i`
module _ (u v : List ℕ) (row seen : ℕ) where
  pub new_word : (i x : ℕ) → ((j : ℕ) → digit x j ≡ digit (get_or u (row + i) 0) j - digit (get_or v (seen + i) 0) j)
      → WordOf (λ c. bit u row c - bit v seen c) i x
  new_word i x d j h = d j ∙ sym (ap₂ ◌-◌ (bit_digit u row i j h) (bit_digit v seen i j h))

  pub new_bit : (c : ℕ) → bit u row c - bit v seen c ≡ 1 → (bit u row c ≡ 1) × (bit v seen c ≡ 0)
  new_bit c e = let k = bit_lt u row c in (omega arith, omega arith)

-- so it is bit by bit
pub bit_less : {w u v : List ℕ} {row : ℕ} → RowLess w row u v → (b : ℕ) → b < 256 → bit v 0 b ≡ bit w row b - bit u 0 b
unfolding bit
bit_less s b h = let e : 0 + b / 32 ≡ b / 32 = omega arith in rw e (s.less (b / 32) (b % 32) (omega arith))

pub first_new : {w : List ℕ} {row seen from r : ℕ} → FirstFrom (λ c. bit w row c - bit w seen c) from r → NextNew w row seen from r
first_new {w} {row} {seen} {from} {r} f =
    record {
      at_least = f.at_least;
      at_most = f.at_most;
      new = λ h. new_bit w w row seen r (f.here h);
      passed = λ c lo hi o. omega (arith, f.passed c lo hi, bit_lt w seen c);
    }
