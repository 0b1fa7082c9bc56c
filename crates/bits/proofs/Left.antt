-- The bits of a row that are left: from word to word, and from bit to bit.
use mathlib.Core.Path.{◌≡◌, refl, sym, ap, ◌∙◌}
use mathlib.Core.Logic.{◌≢◌}
use mathlib.Core.List.{List}
use Prim.Native.Nat.{ℕ, ◌+◌, ◌*◌, ◌/◌, ◌%◌, ◌≤◌, ◌<◌}
use native.Mathlib.Decide.{ℕ_discrete, dec_lt}
use native.Mathlib.Omega.{arith}
use lib.ListN.{get_or}
use Rattle.std.proofs.lemmas.Bool.{lt-ltb, le-ltb, eq-eqb, ne_eqb}
use Rattle.bits.specs.Bits.{digit, bit}
use Rattle.bits.specs.Ones.{LowestTaken, word_left, left, BitGiven}
use Rattle.bits.specs.declared.ones.Row.{Row}
use Rattle.bits.proofs.Digits.{digit_none}

-- ---- the words

module _ (w : List ℕ) (row place rest : ℕ) where
  word_given : (i : ℕ) → i < place → word_left w row place rest i ≡ 0
  unfolding word_left
  word_given i h = rw (word_left, lt-ltb i place h) refl

  word_here : (i : ℕ) → i ≡ place → word_left w row place rest i ≡ rest
  unfolding word_left
  word_here i e = rw (word_left, le-ltb i place (omega arith), eq-eqb i place e) refl

  word_behind : (i : ℕ) → place < i → word_left w row place rest i ≡ get_or w (row + i) 0
  unfolding word_left
  word_behind i h = rw (word_left, le-ltb i place (omega arith), ne_eqb i place (λ e. absurd (omega arith))) refl

-- of a row of which nothing is given
pub left_all : (w : List ℕ) (row b : ℕ) → digit (word_left w row 0 (get_or w row 0) (b / 32)) (b % 32) ≡ bit w row b
unfolding bit
left_all w row b = go (ℕ_discrete (b / 32) 0)
  where
    go : Dec (b / 32 ≡ 0) → digit (word_left w row 0 (get_or w row 0) (b / 32)) (b % 32) ≡ digit (get_or w (row + b / 32) 0) (b % 32)
    go (yes e) = let f : row + b / 32 ≡ row = omega arith in rw (word_here w row 0 (get_or w row 0) (b / 32) e, f) refl
    go (no ne) = rw (word_behind w row 0 (get_or w row 0) (b / 32) (omega (arith, ne))) refl

-- ---- one by one

-- the iterator `s` has come to the word at `place`, of which `rest` is left
pub record Going (s : Row) (place rest : ℕ) : Type 0 where
  pub below : place < 8
  pub same : (i : ℕ) → word_left s.words.now s.row place rest i ≡ word_left s.words.now s.row s.place s.ones.rest i

pub going_start : (s : Row) → Going s s.place s.ones.rest
going_start s = record { below = s.below; same = λ i. refl }

module _ {s : Row} {place rest : ℕ} (g : Going s place rest) where
  -- what is left
  left_is : (b : ℕ) → left s b ≡ digit (word_left s.words.now s.row place rest (b / 32)) (b % 32)
  unfolding left
  left_is b = rw (g.same (b / 32)) refl

  -- no bit before the word
  left_before : (b : ℕ) → b / 32 < place → left s b ≡ 0
  left_before b h = left_is b ∙ rw (word_given s.words.now s.row place rest (b / 32) h) (digit_none (b % 32))

  left_here : (b : ℕ) → b / 32 ≡ place → left s b ≡ digit rest (b % 32)
  left_here b h = left_is b ∙ rw (word_here s.words.now s.row place rest (b / 32) h) refl

  -- the word is given, on to the next
  pub going_on : (next : ℕ) → next ≡ place + 1 → next < 8 → rest ≡ 0 → Going s next (get_or s.words.now (s.row + next) 0)
  going_on next is h e = record { below = h; same = λ i. go i (dec_lt i place) (ℕ_discrete i place) (ℕ_discrete i next) ∙ g.same i }
    where
      w : List ℕ
      w = s.words.now

      read : ℕ
      read = get_or w (s.row + next) 0

      go : (i : ℕ) → Dec (i < place) → Dec (i ≡ place) → Dec (i ≡ next)
          → word_left w s.row next read i ≡ word_left w s.row place rest i
      go i (yes l) p q = word_given w s.row next read i (omega arith) ∙ sym (word_given w s.row place rest i l)
      go i (no l) (yes p) q = word_given w s.row next read i (omega arith) ∙ sym (word_here w s.row place rest i p ∙ e)
      go i (no l) (no p) (yes q) = word_here w s.row next read i q ∙ sym (word_behind w s.row place rest i (omega arith) ∙ rw q refl)
      go i (no l) (no p) (no q) =
          let f : next < i = omega (arith, p, q) in
          word_behind w s.row next read i f ∙ sym (word_behind w s.row place rest i (omega arith))

  -- it was the last
  pub going_end : 8 ≤ place + 1 → rest ≡ 0 → (b : ℕ) → b < 256 → left s b ≡ 0
  going_end h e b l = go (dec_lt (b / 32) place)
    where
      go : Dec (b / 32 < place) → left s b ≡ 0
      go (yes d) = left_before b d
      go (no d) = left_here b (omega (arith, g.below)) ∙ ap (λ (x : ℕ). digit x (b % 32)) e ∙ digit_none (b % 32)

  -- `bit` is the lowest of the word; `t` is the iterator behind it
  module _ {bit less : ℕ} (taken : LowestTaken rest bit less) (t : Row) (words : t.words.now ≡ s.words.now) (row : t.row ≡ s.row)
      (at : t.place ≡ place) (ones : t.ones.rest ≡ less) where
    left_then : (b : ℕ) → left t b ≡ digit (word_left s.words.now s.row place less (b / 32)) (b % 32)
    unfolding left
    left_then b = rw (words, row, at, ones) refl

    pub bit_given : BitGiven s (32 * place + bit) t
    bit_given =
        record {
          below = omega (arith, g.below, taken.below);
          here = left_here given (omega (arith, taken.below)) ∙ rw low taken.here;
          lower = λ c l. lower c l (dec_lt (c / 32) place);
          taken = left_then given ∙ rw (word_here s.words.now s.row place less (given / 32) (omega (arith, taken.below)), low) taken.taken;
          others = λ c ne. others c ne (dec_lt (c / 32) place) (ℕ_discrete (c / 32) place);
        }
      where
        given : ℕ
        given = 32 * place + bit

        low : (32 * place + bit) % 32 ≡ bit
        low = omega (arith, taken.below)

        lower : (c : ℕ) → c < given → Dec (c / 32 < place) → left s c ≡ 0
        lower c l (yes d) = left_before c d
        lower c l (no d) = left_here c (omega (arith, taken.below)) ∙ taken.lower (c % 32) (omega (arith, taken.below))

        others : (c : ℕ) → c ≢ given → Dec (c / 32 < place) → Dec (c / 32 ≡ place) → left t c ≡ left s c
        others c ne (yes d) q =
            left_then c ∙ rw (word_given s.words.now s.row place less (c / 32) d) (digit_none (c % 32)) ∙ sym (left_before c d)
        others c ne (no d) (yes q) =
            left_then c ∙ rw (word_here s.words.now s.row place less (c / 32) q) (taken.others (c % 32) (λ e. ne (omega arith))) ∙ sym (left_here c q)
        others c ne (no d) (no q) =
            let h : place < c / 32 = omega (arith, q) in
            left_then c
            ∙ ap (λ (x : ℕ). digit x (c % 32)) (word_behind s.words.now s.row place less (c / 32) h ∙ sym (word_behind s.words.now s.row place rest (c / 32) h))
            ∙ sym (left_is c)
