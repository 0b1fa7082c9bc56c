-- Rows of bits in a list of 32-bit words: 8 words to a row, 32 bits to a word, the lowest first.
use Rattle.std.specs.Prelude.{◌≡◌, ◌⊎◌, Option, Some, None, ◌≢◌, Bool, true, false, List, ℕ, zero, suc, ◌+◌, ◌-◌, ◌*◌, ◌/◌, ◌%◌, ◌^◌, ◌≤◌, ◌<◌, max, length, get_or}

-- digit `i` of `x`, in binary
abbrev pub digit : ℕ → ℕ → ℕ
digit x i = x / 2 ^ i % 2

-- bit `b` of the row that starts at word `row`
unfoldable pub bit : List ℕ → ℕ → ℕ → ℕ
bit w row b = get_or w (row + b / 32) 0 / 2 ^ (b % 32) % 2

-- `w'` is `w` with bit `b` of the row at `row` set
pub record BitSet (w w' : List ℕ) (row b : ℕ) : Type 0 where
  pub same_length : length w' ≡ length w
  pub words : (i : ℕ) → i ≢ row + b / 32 → get_or w' i 0 ≡ get_or w i 0
  pub here : bit w' row b ≡ 1
  pub others : (c : ℕ) → c ≢ b → bit w' row c ≡ bit w row c

-- bit `b` of the row at `row` is set, or no word changes
abbrev pub SetWhere : Bool → List ℕ → List ℕ → ℕ → ℕ → Type 0
SetWhere true w w' row b = BitSet w w' row b
SetWhere false w w' row b = w' ≡ w

-- `w'` is `w` with row `k` of the matrix at `base` joined into row `a`
pub record RowJoined (w w' : List ℕ) (base a k : ℕ) : Type 0 where
  pub same_length : length w' ≡ length w
  pub before : (i : ℕ) → i < base + 8 * a → get_or w' i 0 ≡ get_or w i 0
  pub behind : (i : ℕ) → base + 8 * a + 8 ≤ i → get_or w' i 0 ≡ get_or w i 0
  pub joined : (b : ℕ) → b < 256 → bit w' (base + 8 * a) b ≡ max (bit w (base + 8 * a) b) (bit w (base + 8 * k) b)

-- the row of bits `v'` has besides those of `v` those of the row of `w` that starts at word `row`
pub record RowAdded (w : List ℕ) (row : ℕ) (v v' : List ℕ) : Type 0 where
  pub same_length : length v' ≡ length v
  pub joined : (b : ℕ) → b < 256 → bit v' 0 b ≡ max (bit v 0 b) (bit w row b)

-- the row of bits `v'` has besides those of `v` those of the rows of `w` from word `base` on that the digits of `x` name
pub record RowsAdded (w : List ℕ) (base x : ℕ) (v v' : List ℕ) : Type 0 where
  pub same_length : length v' ≡ length v
  pub old : (c : ℕ) → c < 256 → bit v 0 c ≡ 1 → bit v' 0 c ≡ 1
  pub new : (j c : ℕ) → j < 32 → c < 256 → digit x j ≡ 1 → bit w (base + 8 * j) c ≡ 1 → bit v' 0 c ≡ 1
  pub no_other : (c : ℕ) → c < 256 → bit v' 0 c ≡ 1 → (bit v 0 c ≡ 1) ⊎ ((j : ℕ) × (j < 32) × (digit x j ≡ 1) × (bit w (base + 8 * j) c ≡ 1))

-- `w'` is `w` with the row of bits `v` joined into the row that starts at word `row`
pub record RowGained (v w w' : List ℕ) (row : ℕ) : Type 0 where
  pub same_length : length w' ≡ length w
  pub before : (i : ℕ) → i < row → get_or w' i 0 ≡ get_or w i 0
  pub behind : (i : ℕ) → row + 8 ≤ i → get_or w' i 0 ≡ get_or w i 0
  pub joined : (b : ℕ) → b < 256 → bit w' row b ≡ max (bit w row b) (bit v 0 b)

-- `v` is the row of `w` that starts at word `row`, by itself
pub record RowTaken (w : List ℕ) (row : ℕ) (v : List ℕ) : Type 0 where
  pub eight : length v ≡ 8
  pub taken : (b : ℕ) → b < 256 → bit v 0 b ≡ bit w row b

-- `v` is the row of `w` that starts at word `row`, by itself, without the bits of `u`, word by word
pub record RowLess (w : List ℕ) (row : ℕ) (u v : List ℕ) : Type 0 where
  pub eight : length v ≡ 8
  pub less : (i j : ℕ) → i < 8 → digit (get_or v i 0) j ≡ digit (get_or w (row + i) 0) j - digit (get_or u i 0) j

-- `r` is the first bit of the row at `row`, or 256
pub record FirstBit (w : List ℕ) (row r : ℕ) : Type 0 where
  pub at_most : r ≤ 256
  pub here : r < 256 → bit w row r ≡ 1
  pub none : (c : ℕ) → c < r → bit w row c ≡ 0

-- `w'` is `w` with the row at `from` copied to the row at `to`
pub record RowCopied (w w' : List ℕ) (to from : ℕ) : Type 0 where
  pub same_length : length w' ≡ length w
  pub before : (i : ℕ) → i < to → get_or w' i 0 ≡ get_or w i 0
  pub behind : (i : ℕ) → to + 8 ≤ i → get_or w' i 0 ≡ get_or w i 0
  pub copied : (b : ℕ) → b < 256 → bit w' to b ≡ bit w from b

-- `r` is the first bit from `from` on that the row at `row` has and the row at `seen` has not, or 256
pub record NextNew (w : List ℕ) (row seen from r : ℕ) : Type 0 where
  pub at_least : from ≤ r
  pub at_most : r ≤ 256
  pub new : r < 256 → (bit w row r ≡ 1) × (bit w seen r ≡ 0)
  pub passed : (c : ℕ) → from ≤ c → c < r → bit w row c ≡ 1 → bit w seen c ≡ 1

-- the place that is found, or 256 where there is none
abbrev pub place_or_end : Option ℕ → ℕ
place_or_end (Some b) = b
place_or_end None = 256

-- the sum of f 0 .. f (k - 1)
unfoldable pub sum : (ℕ → ℕ) → ℕ → ℕ
sum f zero = 0
sum f (suc k) = f k + sum f k
