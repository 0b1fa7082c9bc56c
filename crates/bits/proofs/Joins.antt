-- The rows that the digits of a word name, joined into a row, from the lowest digit on; and the bits of words taken together.
use mathlib.Core.Path.{◌≡◌, refl, sym, ◌∙◌}
use mathlib.Core.Logic.{◌⊎◌, inl, inr}
use mathlib.Core.List.{List}
use Prim.Native.Nat.{ℕ, ◌+◌, ◌*◌, ◌/◌, ◌%◌, ◌≤◌, ◌<◌}
use native.Mathlib.Decide.{ℕ_discrete, dec_lt}
use native.Mathlib.Omega.{arith}
use lib.ListN.{length, get_or}
use lib.Bits.{bit_or}
use Rattle.bits.specs.Bits.{digit, bit, RowAdded, RowsAdded}
use Rattle.bits.specs.Ones.{LowestTaken}
use Rattle.bits.proofs.Digits.{digit_or, digit_none, Rest, rest_start, rest_here, rest_on, rest_none, rest_end}
use Rattle.bits.proofs.Rows.{bit_lt}

-- after the digits below `k`
pub record Taking (w : List ℕ) (base x : ℕ) (v v' : List ℕ) (rest : ℕ) : Type 0 where
  pub same_length : length v' ≡ length v
  k : ℕ
  pub digits : Rest x rest k
  old : (c : ℕ) → c < 256 → bit v 0 c ≡ 1 → bit v' 0 c ≡ 1
  new : (j c : ℕ) → j < k → c < 256 → digit x j ≡ 1 → bit w (base + 8 * j) c ≡ 1 → bit v' 0 c ≡ 1
  no_other : (c : ℕ) → c < 256 → bit v' 0 c ≡ 1
      → (bit v 0 c ≡ 1) ⊎ ((j : ℕ) × (j < 32) × (digit x j ≡ 1) × (bit w (base + 8 * j) c ≡ 1))

pub taking_start : (w : List ℕ) (base x : ℕ) (v : List ℕ) → Taking w base x v v x
taking_start w base x v =
    record {
      same_length = refl;
      k = 0;
      digits = rest_start x;
      old = λ c hc o. o;
      new = λ j c l. absurd (omega arith);
      no_other = λ c hc o. inl o;
    }

-- the row of the lowest digit of `rest`, which starts at word `row`, is joined
module _ {w v v' u : List ℕ} {base x rest row b less : ℕ} (s : Taking w base x v v' rest) (t : LowestTaken rest b less)
    (place : row ≡ base + 8 * b) (q : RowAdded w row v' u) where
  kept : (c : ℕ) → c < 256 → bit v' 0 c ≡ 1 → bit u 0 c ≡ 1
  kept c hc o = omega (arith, q.joined c hc, bit_lt w row c)

  here : (c : ℕ) → c < 256 → bit w row c ≡ 1 → bit u 0 c ≡ 1
  here c hc o = omega (arith, q.joined c hc, bit_lt v' 0 c)

  pub taking_on : Taking w base x v u less
  taking_on =
      record {
        same_length = q.same_length ∙ s.same_length;
        k = b + 1;
        digits = rest_on s.digits t;
        old = λ c hc o. kept c hc (s.old c hc o);
        new = λ j c l hc d o. new j c l hc d o (dec_lt j s.k) (ℕ_discrete j b);
        no_other = λ c hc o. no_other c hc o (ℕ_discrete (bit v' 0 c) 1);
      }
    where
      new : (j c : ℕ) → j < b + 1 → c < 256 → digit x j ≡ 1 → bit w (base + 8 * j) c ≡ 1 → Dec (j < s.k) → Dec (j ≡ b) → bit u 0 c ≡ 1
      new j c l hc d o (yes h) e = kept c hc (s.new j c h hc d o)
      new j c l hc d o (no h) (yes e) = here c hc (rw (place, sym e) o)
      new j c l hc d o (no h) (no ne) =
          let z = rest_none s.digits t j (omega arith) (omega (arith, ne)) in
          absurd (omega arith)

      no_other : (c : ℕ) → c < 256 → bit u 0 c ≡ 1 → Dec (bit v' 0 c ≡ 1)
          → (bit v 0 c ≡ 1) ⊎ ((j : ℕ) × (j < 32) × (digit x j ≡ 1) × (bit w (base + 8 * j) c ≡ 1))
      no_other c hc o (yes e) = s.no_other c hc e
      no_other c hc o (no ne) =
          inr (b, t.below, rest_here s.digits t, rw (sym place) (omega (arith, ne, q.joined c hc, bit_lt v' 0 c, bit_lt w row c)))

pub taking_end : {w v v' : List ℕ} {base x rest : ℕ} → Taking w base x v v' rest → rest ≡ 0 → RowsAdded w base x v v'
taking_end {w} {v} {v'} {base} {x} s e =
    record {
      same_length = s.same_length;
      old = s.old;
      new = λ j c l hc d o. new j c l hc d o (dec_lt j s.k);
      no_other = s.no_other;
    }
  where
    new : (j c : ℕ) → j < 32 → c < 256 → digit x j ≡ 1 → bit w (base + 8 * j) c ≡ 1 → Dec (j < s.k) → bit v' 0 c ≡ 1
    new j c l hc d o (yes h) = s.new j c h hc d o
    new j c l hc d o (no h) = let z = rest_end s.digits e j (omega arith) in absurd (omega arith)

-- ---- the bits of words taken together

-- `all` has the bits of the first `i` words of `v`
abbrev pub Gathered : List ℕ → ℕ → ℕ → Type 0
Gathered v i all = (j b : ℕ) → j < i → digit all b ≡ 0 → digit (get_or v j 0) b ≡ 0

pub gathered_none : (v : List ℕ) (all : ℕ) → Gathered v 0 all
gathered_none v all = λ j b l. absurd (omega arith)

pub gathered_more : (v : List ℕ) (i all x : ℕ) → x ≡ get_or v i 0 → Gathered v i all → Gathered v (i + 1) (bit_or all x)
gathered_more v i all x is g = λ j b l z. go j b l z (ℕ_discrete j i)
  where
    both : (b : ℕ) → digit (bit_or all x) b ≡ 0 → (digit all b ≡ 0) × (digit x b ≡ 0)
    both b z = let m = digit_or all x b in (omega arith, omega arith)

    go : (j b : ℕ) → j < i + 1 → digit (bit_or all x) b ≡ 0 → Dec (j ≡ i) → digit (get_or v j 0) b ≡ 0
    go j b l z (yes e) = rw (e, sym is) (both b z).1
    go j b l z (no ne) = g j b (omega (arith, ne)) (both b z).0

-- none of them has one
pub gathered_end : (v : List ℕ) {i all : ℕ} → 8 ≤ i → all ≡ 0 → Gathered v i all → (b : ℕ) → b < 256 → bit v 0 b ≡ 0
unfolding bit
gathered_end v h e g b l =
    let f : 0 + b / 32 ≡ b / 32 = omega arith in
    rw f (g (b / 32) (b % 32) (omega arith) (rw e (digit_none (b % 32))))
