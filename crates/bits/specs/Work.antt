-- The regions of the work words, and what a matrix there holds.
use Rattle.std.specs.Prelude.{◌≡◌, List, ℕ, ◌+◌, ◌*◌, ◌≤◌, ◌<◌, length, get_or}
use Rattle.bits.specs.Bits.{bit}

-- the words of a matrix: 256 rows of 8
abbrev pub matrix_words : ℕ
matrix_words = 2048

-- the links, a row of bits for each episode
abbrev pub links_at : ℕ
links_at = 0

-- the ways, a row of bits for each episode
abbrev pub ways_at : ℕ
ways_at = 2048

-- the pairs of items, a row of bits for each item
abbrev pub items_at : ℕ
items_at = 4096

-- the tables of the search, 256 words each: the item behind, the item before, from where an item was seen, and the queue
abbrev pub next_at : ℕ
next_at = 6144

abbrev pub prev_at : ℕ
prev_at = 6400

abbrev pub via_at : ℕ
via_at = 6656

abbrev pub queue_at : ℕ
queue_at = 6912

-- a row of bits: what the search has seen
abbrev pub seen_at : ℕ
seen_at = 7168

-- a row of bits: what earlier searches have seen in vain
abbrev pub dead_at : ℕ
dead_at = 7176

-- a row of bits of which none is set
abbrev pub none_at : ℕ
none_at = 7184

-- the tables of the episodes and the items, 256 words each: the voices of an episode, where its items start, and whose an item is
abbrev pub voices_at : ℕ
voices_at = 7192

abbrev pub starts_at : ℕ
starts_at = 7448

abbrev pub owners_at : ℕ
owners_at = 7704

-- where the regions end
abbrev pub used_words : ℕ
used_words = 7960

-- the matrix at `base` has exactly the pairs of `R`, among 256 rows of 256 bits
pub record Matrix (base : ℕ) (w : List ℕ) (R : ℕ → ℕ → Type 0) : Type 0 where
  pub sound : (a b : ℕ) → a < 256 → b < 256 → bit w (base + 8 * a) b ≡ 1 → R a b
  pub complete : (a b : ℕ) → a < 256 → b < 256 → R a b → bit w (base + 8 * a) b ≡ 1

-- `w'` is as `w` but for the words from `lo` on and before `hi`
pub record Outside (lo hi : ℕ) (w w' : List ℕ) : Type 0 where
  pub same_length : length w' ≡ length w
  pub before : (i : ℕ) → i < lo → get_or w' i 0 ≡ get_or w i 0
  pub behind : (i : ℕ) → hi ≤ i → get_or w' i 0 ≡ get_or w i 0

-- the words of the matrix at `from` are those of the matrix at `to` too
pub record MatrixCopied (w w' : List ℕ) (from to : ℕ) : Type 0 where
  pub outside : Outside to (to + matrix_words) w w'
  pub words : (i : ℕ) → i < matrix_words → get_or w' (to + i) 0 ≡ get_or w (from + i) 0
