-- What the steps that list and pair items leave.
use Rattle.std.specs.Prelude.{◌≡◌, ◌≢◌, List, ℕ, ◌+◌, ◌*◌, ◌≤◌, ◌<◌, length, get_or}
use Rattle.bits.specs.Bits.{bit}
use Rattle.bits.specs.Work.{ways_at, items_at, next_at, starts_at, owners_at, used_words, matrix_words, Outside}
use Rattle.items.specs.Listed.{voices_in, start_in, owner_in, Listed, WaysBelow}

-- the items of `v` stand behind `m` others, and are `r` with these
pub record Added (w w' : List ℕ) (v m r : ℕ) : Type 0 where
  pub same_length : length w' ≡ length w
  pub count : r ≡ m + voices_in w v
  pub start : start_in w' v ≡ m
  pub owners : (x : ℕ) → m ≤ x → x < r → owner_in w' x ≡ v
  pub before : (i : ℕ) → i < owners_at + m → i ≢ starts_at + v → get_or w' i 0 ≡ get_or w i 0
  pub behind : (i : ℕ) → owners_at + r ≤ i → get_or w' i 0 ≡ get_or w i 0

-- each word of the table is the number of its place
pub record Numbered (v v' : List ℕ) : Type 0 where
  pub same_length : length v' ≡ length v
  pub words : (i : ℕ) → i < length v → get_or v' i 0 ≡ i

-- each of `n` episodes is one item, with its own number
pub record ListedAlike (w w' : List ℕ) (n : ℕ) : Type 0 where
  pub outside : Outside starts_at used_words w w'
  pub starts : (v : ℕ) → v < n → start_in w' v ≡ v
  pub owners : (x : ℕ) → x < n → owner_in w' x ≡ x

-- the words of the ways are those of the pairs too
pub record WaysCopied (w w' : List ℕ) : Type 0 where
  pub outside : Outside items_at next_at w w'
  pub words : (i : ℕ) → i < matrix_words → get_or w' (items_at + i) 0 ≡ get_or w (ways_at + i) 0

-- the bits from `lo` on and before `hi` are set in the row that starts at word `row`, and no others change
pub record BitsSet (v v' : List ℕ) (row lo hi : ℕ) : Type 0 where
  pub outside : Outside row (row + 8) v v'
  pub marked : (y : ℕ) → lo ≤ y → y < hi → bit v' row y ≡ 1
  pub before : (y : ℕ) → y < lo → bit v' row y ≡ bit v row y
  pub behind : (y : ℕ) → hi ≤ y → bit v' row y ≡ bit v row y

-- `v` has a row of bits for each of `n` episodes, with those of its items
pub record HasMasks (w : List ℕ) (n m : ℕ) (v : List ℕ) : Type 0 where
  pub own : (b y : ℕ) → b < n → y < m → owner_in w y ≡ b → bit v (8 * b) y ≡ 1
  pub others : (b y : ℕ) → b < n → y < m → owner_in w y ≢ b → bit v (8 * b) y ≡ 0

-- the items of `n` episodes, of which `a` is one, are listed, `v` has their masks, and no way leads out of the episodes
pub record Ready (w v : List ℕ) (n m a : ℕ) : Type 0 where
  pub listed : Listed w n m
  pub masks : HasMasks w n m v
  pub ways : WaysBelow w n
  pub episode : a < n

-- the row of bits `v` has the items of those that `a` has a way to
abbrev pub HoldsItems : List ℕ → ℕ → ℕ → List ℕ → Type 0
HoldsItems w m a v = (y : ℕ) → y < m → bit v 0 y ≡ bit w (ways_at + 8 * a) (owner_in w y)

-- the rows of the items of `a` have the items of those that `a` has a way to, the other rows are as before
pub record ItemsPaired (w w' : List ℕ) (m a : ℕ) : Type 0 where
  pub outside : Outside items_at next_at w w'
  pub here : (x y : ℕ) → x < m → y < m → owner_in w x ≡ a → bit w' (items_at + 8 * x) y ≡ bit w (ways_at + 8 * a) (owner_in w y)
  pub others : (x y : ℕ) → x < m → y < m → owner_in w x ≢ a → bit w' (items_at + 8 * x) y ≡ bit w (items_at + 8 * x) y
