-- Binary digits of a number: of `or`, `xor`, a power of two, a shifted number, and the lowest that is one.
use mathlib.Core.Path.{◌≡◌, refl, sym, ap, ◌∙◌, subst}
use mathlib.Core.Logic.{◌≢◌}
use Prim.Native.Nat.{ℕ, zero, suc, ◌+◌, ◌-◌, ◌*◌, ◌/◌, ◌%◌, ◌^◌, ◌≤◌, ◌<◌, max}
use native.Mathlib.Decide.{ℕ_discrete, dec_lt}
use native.Mathlib.Nat.{mod-lt, mod-eq_of_lt, zero-lt-suc, div-eq_of_lt, pow-suc}
use native.Mathlib.Omega.{arith}
use lib.Arith.{digits_mod, lt_of_le-ne}
use lib.Pow.{pow_pos, pow-add, pow-lt, shr-shr, shl-shr}
use lib.Bits.{bit_or, bit_xor, differ, or_shr, or_step, xor_shr, xor_step, xor_lt}
use lib.Count.{count_trailing_zeros, trailing_of_zero, under}
use Rattle.bits.specs.Bits.{digit}
use Rattle.bits.specs.Ones.{LowestTaken}

pub digit_lt : (x i : ℕ) → digit x i < 2
digit_lt x i = mod-lt (x / 2 ^ i) (zero-lt-suc 1)

pub digit_none : (i : ℕ) → digit 0 i ≡ 0
digit_none i = ap (λ (x : ℕ). x % 2) (div-eq_of_lt {n = 0} {m = 2 ^ i} (pow_pos i))

max_two : (x y : ℕ) → x < 2 → y < 2 → max x y < 2
max_two x y h k = omega arith

pub digit_or : (a b i : ℕ) → digit (bit_or a b) i ≡ max (digit a i) (digit b i)
digit_or a b i =
    ap (λ (x : ℕ). x % 2) (or_shr a b i ∙ or_step (a / 2 ^ i) (b / 2 ^ i))
    ∙ digits_mod (bit_or (a / 2 ^ i / 2) (b / 2 ^ i / 2)) (max_two (digit a i) (digit b i) (digit_lt a i) (digit_lt b i))

differ_two : (x y : ℕ) → x < 2 → y < 2 → differ x y < 2
differ_two zero y h k = k
differ_two (suc x) zero h k = h
differ_two (suc zero) (suc zero) h k = zero-lt-suc 1
differ_two (suc zero) (suc (suc y)) h k = absurd (omega arith)
differ_two (suc (suc x)) (suc y) h k = absurd (omega arith)

pub digit_xor : (a b i : ℕ) → digit (bit_xor a b) i ≡ differ (digit a i) (digit b i)
digit_xor a b i =
    ap (λ (x : ℕ). x % 2) (xor_shr a b i ∙ xor_step (a / 2 ^ i) (b / 2 ^ i))
    ∙ digits_mod (bit_xor (a / 2 ^ i / 2) (b / 2 ^ i / 2)) (differ_two (digit a i) (digit b i) (digit_lt a i) (digit_lt b i))

-- the digit of a shifted number
pub digit_shr : (x s i : ℕ) → digit (x / 2 ^ s) i ≡ digit x (s + i)
digit_shr x s i = ap (λ (y : ℕ). y % 2) (shr-shr x s i)

digit_first : (x : ℕ) → digit x 0 ≡ x % 2
digit_first x = omega arith

digit_next : (x i : ℕ) → digit x (suc i) ≡ digit (x / 2) i
digit_next x i = let e : suc i ≡ 1 + i = omega arith in rw e (sym (digit_shr x 1 i))

pub digit_one : (i : ℕ) → digit (2 ^ i) i ≡ 1
digit_one i =
    let e : 2 ^ i ≡ 1 * 2 ^ i = omega arith in
    ap (λ (x : ℕ). x / 2 ^ i % 2) e ∙ ap (λ (x : ℕ). x % 2) (shl-shr 1 i)

-- a power of two over a smaller one is even
digit_higher : (j i : ℕ) → digit (2 ^ (suc j + i)) i ≡ 0
digit_higher j i =
    ap (λ (x : ℕ). x / 2 ^ i % 2) (pow-add 2 (suc j) i) ∙ ap (λ (x : ℕ). x % 2) (shl-shr (2 ^ suc j) i ∙ pow-suc 2 j) ∙ omega arith

pub digit_other : (k i : ℕ) → i ≢ k → digit (2 ^ k) i ≡ 0
digit_other k i h = go (dec_lt i k)
  where
    go : Dec (i < k) → digit (2 ^ k) i ≡ 0
    go (yes l) =
        let e : suc (k - i - 1) + i ≡ k = omega arith in
        subst (λ (x : ℕ). digit (2 ^ x) i ≡ 0) e (digit_higher (k - i - 1) i)
    go (no l) = ap (λ (x : ℕ). x % 2) (div-eq_of_lt (pow-lt (lt_of_le-ne (omega arith) (λ e. h (sym e)))))

under_least : (d t k x : ℕ) → d < 2 → x % 2 ≡ d → (d ≡ 0 → (t < k) × (digit (x / 2) t ≡ 1)) → (under d t < suc k) × (digit x (under d t) ≡ 1)
under_least zero t k x h e f = let (l, o) = f refl in (omega arith, digit_next x t ∙ o)
under_least (suc zero) t k x h e f = (zero-lt-suc k, digit_first x ∙ e)
under_least (suc (suc d)) t k x h e f = absurd (omega arith)

-- the lowest digit that is one
pub digit_trailing : (k x : ℕ) → x < 2 ^ k → 0 < x → (count_trailing_zeros k x < k) × (digit x (count_trailing_zeros k x) ≡ 1)
unfolding count_trailing_zeros
digit_trailing zero x h p = absurd (omega arith)
digit_trailing (suc k) x h p =
    let twice : x < 2 ^ k * 2 = subst (λ (y : ℕ). x < y) (pow-suc 2 k) h in
    under_least (x % 2) (count_trailing_zeros k (x / 2)) k x (mod-lt x (zero-lt-suc 1)) refl
    (λ e. digit_trailing k (x / 2) (omega arith) (omega arith))

under_below : (d t x i : ℕ) → x % 2 ≡ d → ((j : ℕ) → j < t → digit (x / 2) j ≡ 0) → i < under d t → digit x i ≡ 0
under_below zero t x zero e f h = digit_first x ∙ e
under_below zero t x (suc i) e f h = digit_next x i ∙ f i (omega arith)
under_below (suc d) t x i e f h = absurd (omega arith)

-- and those below it are zero
pub digit_below : (k x i : ℕ) → i < count_trailing_zeros k x → digit x i ≡ 0
unfolding count_trailing_zeros
digit_below zero x i h = absurd (omega arith)
digit_below (suc k) x i h = under_below (x % 2) (count_trailing_zeros k (x / 2)) x i refl (λ j l. digit_below k (x / 2) j l) h

-- ---- the digits that one has and another has not

less_or_none : (x y : ℕ) → x < 2 → y < 2 → differ (max x y) y ≡ x - y
less_or_none zero zero h k = refl
less_or_none zero (suc zero) h k = refl
less_or_none (suc zero) zero h k = refl
less_or_none (suc zero) (suc zero) h k = refl
less_or_none x (suc (suc y)) h k = absurd (omega arith)
less_or_none (suc (suc x)) y h k = absurd (omega arith)

pub digit_without : (x y i : ℕ) → digit (bit_xor (bit_or x y) y) i ≡ digit x i - digit y i
digit_without x y i =
    digit_xor (bit_or x y) y i ∙ ap (λ (d : ℕ). differ d (digit y i)) (digit_or x y i)
    ∙ less_or_none (digit x i) (digit y i) (digit_lt x i) (digit_lt y i)

-- ---- the digits of a word that are one, from the lowest on

differ_none : (x : ℕ) → differ x 0 ≡ x
differ_none zero = refl
differ_none (suc x) = refl

-- one over `t` places, as a word holds it
pub mask : (t : ℕ) → t < 32 → 1 * 2 ^ t % 4294967296 ≡ 2 ^ t
mask t h =
    let l : 2 ^ t < 4294967296 = pow-lt {i = t} {j = 32} h in
    let e : 1 * 2 ^ t ≡ 2 ^ t = omega arith in
    ap (λ (x : ℕ). x % 4294967296) e ∙ mod-eq_of_lt l

-- the lowest digit that is one is taken out of a word
module _ (x : ℕ) (h : x < 2 ^ 32) (some : 0 < x) where
  abbrev lowest : ℕ
  lowest = count_trailing_zeros 32 x

  abbrev less : ℕ
  less = bit_xor x (1 * 2 ^ count_trailing_zeros 32 x % 4294967296)

  digit_less : (j : ℕ) → digit less j ≡ differ (digit x j) (digit (2 ^ lowest) j)
  digit_less j = rw (mask lowest (digit_trailing 32 x h some).0) (digit_xor x (2 ^ lowest) j)

  pub lowest_taken : LowestTaken x (count_trailing_zeros 32 x) (bit_xor x (1 * 2 ^ count_trailing_zeros 32 x % 4294967296))
  lowest_taken =
      record {
        below = (digit_trailing 32 x h some).0;
        here = (digit_trailing 32 x h some).1;
        lower = λ j l. digit_below 32 x j l;
        taken = digit_less lowest ∙ rw ((digit_trailing 32 x h some).1, digit_one lowest) refl;
        others = λ j ne. digit_less j ∙ rw (digit_other lowest j ne) (differ_none (digit x j));
      }

  less_lt : less < 2 ^ 32
  less_lt = rw (mask lowest (digit_trailing 32 x h some).0) (xor_lt 32 x (2 ^ lowest) h (pow-lt (digit_trailing 32 x h some).0))

  -- what is left has its lowest further up
  pub lowest_less : 32 - count_trailing_zeros 32 (bit_xor x (1 * 2 ^ count_trailing_zeros 32 x % 4294967296)) < 32 - count_trailing_zeros 32 x
  lowest_less = go (ℕ_discrete less 0)
    where
      below : count_trailing_zeros 32 x < 32
      below = (digit_trailing 32 x h some).0

      go : Dec (less ≡ 0) → 32 - count_trailing_zeros 32 less < 32 - count_trailing_zeros 32 x
      go (yes e) = rw e (omega (arith, below, trailing_of_zero 32))
      go (no ne) =
          let (low, one) = digit_trailing 32 less less_lt (omega (arith, ne)) in
          higher low one (ℕ_discrete (count_trailing_zeros 32 less) lowest) (dec_lt (count_trailing_zeros 32 less) lowest)
        where
          higher : count_trailing_zeros 32 less < 32 → digit less (count_trailing_zeros 32 less) ≡ 1
              → Dec (count_trailing_zeros 32 less ≡ lowest) → Dec (count_trailing_zeros 32 less < lowest)
              → 32 - count_trailing_zeros 32 less < 32 - count_trailing_zeros 32 x
          higher low one (yes e) l = let t = lowest_taken.taken in absurd (omega (arith, t, rw e at one))
          higher low one (no ne) (yes l) =
              let o = lowest_taken.others (count_trailing_zeros 32 less) ne in
              let z = digit_below 32 x (count_trailing_zeros 32 less) l in
              absurd (omega arith)
          higher low one (no ne) (no l) = omega (arith, ne)

-- `rest` has the digits of `x` from `k` on, and no others
pub record Rest (x rest k : ℕ) : Type 0 where
  pub at_most : k ≤ 32
  pub below : (j : ℕ) → j < k → digit rest j ≡ 0
  pub above : (j : ℕ) → k ≤ j → digit rest j ≡ digit x j

pub rest_start : (x : ℕ) → Rest x x 0
rest_start x = record { at_most = omega arith; below = λ j l. absurd (omega arith); above = λ j l. refl }

-- the lowest is taken out
module _ {x rest k b less : ℕ} (r : Rest x rest k) (t : LowestTaken rest b less) where
  -- those before it were none
  pub rest_least : k ≤ b
  rest_least = go (dec_lt b k)
    where
      go : Dec (b < k) → k ≤ b
      go (yes l) = absurd (omega (arith, r.below b l, t.here))
      go (no l) = omega arith

  pub rest_here : digit x b ≡ 1
  rest_here = sym (r.above b rest_least) ∙ t.here

  pub rest_none : (j : ℕ) → k ≤ j → j < b → digit x j ≡ 0
  rest_none j lo hi = sym (r.above j lo) ∙ t.lower j hi

  pub rest_on : Rest x less (b + 1)
  rest_on =
      record {
        at_most = omega (arith, t.below);
        below = λ j l. below j l (ℕ_discrete j b);
        above = λ j l. t.others j (λ e. absurd (omega arith)) ∙ r.above j (omega (arith, rest_least));
      }
    where
      below : (j : ℕ) → j < b + 1 → Dec (j ≡ b) → digit less j ≡ 0
      below j l (yes e) = rw e t.taken
      below j l (no ne) = t.others j ne ∙ t.lower j (omega (arith, ne))

-- none is left
pub rest_end : {x rest k : ℕ} → Rest x rest k → rest ≡ 0 → (j : ℕ) → k ≤ j → digit x j ≡ 0
rest_end r e j l = sym (r.above j l) ∙ ap (λ (y : ℕ). digit y j) e ∙ digit_none j
