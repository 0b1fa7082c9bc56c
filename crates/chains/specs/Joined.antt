-- What the functions that join chains leave in the work words.
use Rattle.std.specs.Prelude.{◌≡◌, ◌⊎◌, List, ℕ, ◌+◌, ◌≤◌, ◌<◌, get_or}
use Rattle.paths.specs.Graph.{Graph, EndsBelow, Link, Way}
use Rattle.bits.specs.Work.{links_at, next_at, via_at, Matrix, Outside, none_at}
use Rattle.searching.specs.Items.{Tables, SameChains, Matching, Pairing, Dead, Exhausted, Shrunk}
use Rattle.searching.specs.State.{tables, deads, Pairs, Sized}
use Rattle.chains.specs.Cycles.{Selves}

-- no item stands behind another
abbrev pub NoneBehind : List ℕ → Type 0
NoneBehind w = (i : ℕ) → next_at ≤ i → i < via_at → get_or w i 0 ≡ 0

-- `a` has been searched from too: there is one chain fewer, or the chains are the same
pub record ExtendedIn (w w' : List ℕ) (base m a : ℕ) : Type 0 where
  pub outside : Outside next_at none_at w w'
  pub seen_dead : (b : ℕ) → b < m → (tables w').seen b ≡ deads w' b
  pub dead : Dead m (Pairs base w) (tables w') (deads w') (a + 1)
  pub change : SameChains m (tables w) (tables w') ⊎ Shrunk m (Pairs base w) (tables w) (tables w')

-- chains of pairs of the matrix
pub record Chained (w : List ℕ) (base m : ℕ) : Type 0 where
  pub sized : Sized w base m
  pub matching : Matching m (tables w)
  pub pairs : (a b : ℕ) → a < m → b < m → (tables w).next a ≡ b + 1 → Pairs base w a b

-- A pass that pairs items as they come is at `a`.
pub record PairedIn (w w' : List ℕ) (base m a : ℕ) : Type 0 where
  pub outside : Outside next_at none_at w w'
  pub pairing : Pairing m (Pairs base w) (tables w') a

-- As few chains as can be: what stands behind an item the item has in the matrix, and the search is exhausted.
pub record JoinedIn (w w' : List ℕ) (base m : ℕ) : Type 0 where
  pub outside : Outside next_at none_at w w'
  pub matching : Matching m (tables w')
  pub pairs : (a b : ℕ) → a < m → b < m → (tables w').next a ≡ b + 1 → Pairs base w a b
  pub exhausted : Exhausted m (Pairs base w) (tables w')

-- each item but `v` is behind itself
pub record SelvesIn (w w' : List ℕ) (m v : ℕ) : Type 0 where
  pub outside : Outside next_at via_at w w'
  pub selves : Selves m (tables w') v

-- In a graph whose links the matrix holds and in which `v` has a way to itself: the items behind each other from `v` on are a loop.
pub record LoopedIn (w w' : List ℕ) (m v : ℕ) : Type 0 where
  pub outside : Outside next_at none_at w w'
  pub shrunk : (g : Graph) → EndsBelow g → g.n ≡ m → Matrix links_at w (Link g) → Way g v v
      → (t : Tables) × Selves m t v × Shrunk m (Link g) t (tables w')
