-- What the steps from a log to its matrix of ways leave.
use Rattle.std.specs.Prelude.{◌≡◌, Option, Some, None, ℕ, ◌+◌, ◌*◌, ◌≤◌, ◌<◌, max, min, get_or}
use mathlib.Core.List.{List, ◌++◌, map, Memᴰ as Mem}
use Rattle.logs.specs.Content.{joins, short_of}
use Rattle.logs.specs.Groups.{told}
use Rattle.paths.specs.Graph.{Graph, EndsBelow, Link, Way}
use Rattle.paths.specs.Closure.{WayBelow}
use Rattle.logs.specs.Log.{graph_of}
use Rattle.bits.specs.Bits.{bit}
use Rattle.bits.specs.Work.{links_at, ways_at, matrix_words, Matrix, Outside, items_at}

-- the words of both matrices are zero
abbrev pub NoneMarked : List ℕ → Type 0
NoneMarked w = (i : ℕ) → i < items_at → get_or w i 0 ≡ 0

-- the first matrix holds the links `ls`
abbrev pub Marked : List (ℕ × ℕ) → List ℕ → Type 0
Marked ls w = Matrix links_at w (λ a b. Mem (a, b) ls)

-- the links that the to words `ws` give in a group of `a`, of those that count by their own pause in version `v`
abbrev pub links_of : ℕ → ℕ → List ℕ → List (ℕ × ℕ)
links_of v a ws = map joins (short_of v (map (told a) ws))

-- the links of a group that count in version `v` by their own pause are marked besides
pub record GroupMarked (v a : ℕ) (ws w w' : List ℕ) : Type 0 where
  pub outside : Outside links_at ways_at w w'
  pub links : (ls : List (ℕ × ℕ)) → Marked ls w → Marked (ls ++ links_of v a ws) w'

-- the first matrix holds the links of the log that count
pub record LinksMarked (l w w' : List ℕ) : Type 0 where
  pub outside : Outside links_at ways_at w w'
  pub links : Matrix links_at w' (Link (graph_of l))

-- the words of the links are those of the ways too
pub record LinksCopied (w w' : List ℕ) : Type 0 where
  pub outside : Outside ways_at items_at w w'
  pub words : (i : ℕ) → i < matrix_words → get_or w' (ways_at + i) 0 ≡ get_or w (links_at + i) 0

-- the row of bits `v` has the ways of `k`
abbrev pub HoldsWays : List ℕ → ℕ → List ℕ → Type 0
HoldsWays w k v = (b : ℕ) → b < 256 → bit v 0 b ≡ bit w (ways_at + 8 * k) b

-- row `a` of the ways has the ways of `k` besides, where it has `k`
pub record RowClosed (w w' : List ℕ) (a k : ℕ) : Type 0 where
  pub outside : Outside ways_at items_at w w'
  pub here : (y : ℕ) → y < 256 → bit w' (ways_at + 8 * a) y ≡ max (bit w (ways_at + 8 * a) y) (min (bit w (ways_at + 8 * a) k) (bit w (ways_at + 8 * k) y))
  pub other : (x y : ℕ) → x < 256 → y < 256 → (x ≡ a → ⊥) → bit w' (ways_at + 8 * x) y ≡ bit w (ways_at + 8 * x) y

-- from the ways with inner episodes below `k` to those with inner episodes below k + 1
pub record RoundClosed (w w' : List ℕ) (n k : ℕ) : Type 0 where
  pub outside : Outside ways_at items_at w w'
  pub ways : (g : Graph) → EndsBelow g → g.n ≡ n → Matrix ways_at w (WayBelow g k) → Matrix ways_at w' (WayBelow g (k + 1))

-- from the links, where the ways are to stand, to the ways
pub record Closed (w w' : List ℕ) (n : ℕ) : Type 0 where
  pub outside : Outside ways_at items_at w w'
  pub ways : (g : Graph) → EndsBelow g → g.n ≡ n → Matrix ways_at w (Link g) → Matrix ways_at w' (Way g)

-- from the links to the ways
pub record WaysReached (w w' : List ℕ) (n : ℕ) : Type 0 where
  pub outside : Outside ways_at items_at w w'
  pub ways : (g : Graph) → EndsBelow g → g.n ≡ n → Matrix links_at w (Link g) → Matrix ways_at w' (Way g)

-- the matrices hold the links and the ways of the log
pub record ReachedLog (l w w' : List ℕ) : Type 0 where
  pub outside : Outside links_at items_at w w'
  pub links : Matrix links_at w' (Link (graph_of l))
  pub ways : Matrix ways_at w' (Way (graph_of l))

-- the episode that is found, or `n` where there is none
abbrev pub episode_or : ℕ → Option ℕ → ℕ
episode_or n (Some v) = v
episode_or n None = n

-- `r` is the first episode that has a way to itself, or `n`
pub record FirstLoop (w : List ℕ) (n r : ℕ) : Type 0 where
  pub at_most : r ≤ n
  pub here : r < n → bit w (ways_at + 8 * r) r ≡ 1
  pub first : (u : ℕ) → u < r → bit w (ways_at + 8 * u) u ≡ 0
