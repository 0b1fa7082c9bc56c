-- What the steps to the ways of links that rise leave.
use Rattle.std.specs.Prelude.{◌≡◌, Bool, true, false, List, ℕ, ◌+◌, ◌*◌, ◌≤◌, ◌<◌, length, get_or}
use Rattle.paths.specs.Graph.{Graph, EndsBelow, Link, Way}
use Rattle.bits.specs.Bits.{bit}
use Rattle.bits.specs.Work.{links_at, ways_at, Matrix, Outside, items_at}

-- the words of the ways are zero
abbrev pub NoWays : List ℕ → Type 0
NoWays w = (i : ℕ) → ways_at ≤ i → i < items_at → get_or w i 0 ≡ 0

-- in the first `n` rows of the links each bit is that of a higher number
abbrev pub BitsRise : List ℕ → ℕ → Type 0
BitsRise w n = (a b : ℕ) → a < n → b < 256 → bit w (links_at + 8 * a) b ≡ 1 → a < b

-- whether it is so in row `a`
pub record RowTest (w : List ℕ) (a : ℕ) (r : Bool) : Type 0 where
  pub all : r ≡ true → (b : ℕ) → b < 256 → bit w (links_at + 8 * a) b ≡ 1 → a < b
  pub not_all : r ≡ false → (b : ℕ) × (b < 256) × (bit w (links_at + 8 * a) b ≡ 1) × (b ≤ a)

-- whether it is so in all of them
pub record RiseTest (w : List ℕ) (n : ℕ) (r : Bool) : Type 0 where
  pub all : r ≡ true → BitsRise w n
  pub not_all : r ≡ false → BitsRise w n → ⊥

-- each link goes to a higher number, which is below 256
abbrev pub LinksRise : Graph → Type 0
LinksRise g = (a b : ℕ) → Link g a b → (a < b) × (b < 256)

-- a way to `b` from an `a` that is not below `k`
abbrev pub WayFrom : Graph → ℕ → ℕ → ℕ → Type 0
WayFrom g k a b = (k ≤ a) × Way g a b

-- row `a` of the ways has the links of `a` to those that are not in `linked`
pub record EndsTaken (w w' : List ℕ) (a : ℕ) (linked : List ℕ) : Type 0 where
  pub outside : Outside (ways_at + 8 * a) (ways_at + 8 * a + 8) w w'
  pub sound : (c : ℕ) → c < 256 → bit w' (ways_at + 8 * a) c ≡ 1 → (bit w (links_at + 8 * a) c ≡ 1) × (bit linked 0 c ≡ 0)
  pub complete : (c : ℕ) → c < 256 → bit w (links_at + 8 * a) c ≡ 1 → bit linked 0 c ≡ 0 → bit w' (ways_at + 8 * a) c ≡ 1

-- those from `k` on that have links are in `linked`
abbrev pub LinkedFrom : Graph → ℕ → List ℕ → Type 0
LinkedFrom g k linked = (a b : ℕ) → k ≤ a → Link g a b → bit linked 0 a ≡ 1

-- from the ways from episodes above `a` to those from `a` on, where links rise
pub record RowReached (w w' : List ℕ) (a : ℕ) (linked : List ℕ) : Type 0 where
  pub outside : Outside ways_at items_at w w'
  pub ways : (g : Graph) → LinksRise g → LinkedFrom g (a + 1) linked → Matrix links_at w (Link g) → Matrix ways_at w (WayFrom g (a + 1))
      → Matrix ways_at w' (WayFrom g a)

-- `a` is in `linked'` if it has a link, and all others are as in `linked`
pub record LinkNoted (w : List ℕ) (a : ℕ) (linked linked' : List ℕ) : Type 0 where
  pub same_length : length linked' ≡ length linked
  pub here : (b : ℕ) → b < 256 → bit w (links_at + 8 * a) b ≡ 1 → bit linked' 0 a ≡ 1
  pub none : ((b : ℕ) → b < 256 → bit w (links_at + 8 * a) b ≡ 0) → linked' ≡ linked
  pub others : (c : ℕ) → (c ≡ a → ⊥) → bit linked' 0 c ≡ bit linked 0 c

-- from the links to the ways, where links rise
pub record RisingReached (w w' : List ℕ) (n : ℕ) : Type 0 where
  pub outside : Outside ways_at items_at w w'
  pub ways : (g : Graph) → EndsBelow g → g.n ≡ n → LinksRise g → Matrix links_at w (Link g) → Matrix ways_at w' (Way g)
