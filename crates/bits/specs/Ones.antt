-- What the iterators over the bits of a word and of a row give.
use Rattle.std.specs.Prelude.{◌≡◌, true, false, Option, MatchOption, ◌≢◌, List, ℕ, ◌+◌, ◌-◌, ◌*◌, ◌/◌, ◌%◌, ◌<◌, eqb, ltb, get_or}
use lib.Count.{count_trailing_zeros}
use Rattle.bits.specs.Bits.{digit}
use Rattle.bits.specs.declared.ones.Ones.{Ones}
use Rattle.bits.specs.declared.ones.Row.{Row}

-- `b` is the lowest digit of `x` that is one, and `y` is `x` without it
pub record LowestTaken (x b y : ℕ) : Type 0 where
  pub below : b < 32
  pub here : digit x b ≡ 1
  pub lower : (j : ℕ) → j < b → digit x j ≡ 0
  pub taken : digit y b ≡ 0
  pub others : (j : ℕ) → j ≢ b → digit y j ≡ digit x j

-- the lowest bit that is left, or none where none is
abbrev pub GivesOne : Ones → Option ℕ → Ones → Type 0
GivesOne s r t = MatchOption r ((s.rest ≡ 0) × (t ≡ s)) (λ b. LowestTaken s.rest b t.rest)

-- word `i` of the row at `row`, as it is left where the words before `place` are given and `rest` is left of the one there
unfoldable pub word_left : List ℕ → ℕ → ℕ → ℕ → ℕ → ℕ
word_left w row place rest i = elim (ltb i place) [ true ↦ 0 | false ↦ elim (eqb i place) [ true ↦ rest | false ↦ get_or w (row + i) 0 ] ]

-- bit `b` of the row, as it is left
unfoldable pub left : Row → ℕ → ℕ
left s b = digit (word_left s.words.now s.row s.place s.ones.rest (b / 32)) (b % 32)

-- no fewer than are left
abbrev pub bits_left : Row → ℕ
bits_left s = 32 * (7 - s.place) + (32 - count_trailing_zeros 32 s.ones.rest)

-- `b` is the first bit that is left, and `t` has those behind it
pub record BitGiven (s : Row) (b : ℕ) (t : Row) : Type 0 where
  pub below : b < 256
  pub here : left s b ≡ 1
  pub lower : (c : ℕ) → c < b → left s c ≡ 0
  pub taken : left t b ≡ 0
  pub others : (c : ℕ) → c ≢ b → left t c ≡ left s c

-- the first bit that is left, or none where none is
abbrev pub GivesBit : Row → Option ℕ → Row → Type 0
GivesBit s r t = MatchOption r (((c : ℕ) → c < 256 → left s c ≡ 0) × (t ≡ s)) (λ b. BitGiven s b t)
