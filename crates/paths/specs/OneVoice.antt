-- Covers, apart sets and what follows from them as the scope defines them, word for word, where no episode has a mark: what graphs in which every
-- episode has one voice are held to.
use Rattle.std.specs.Prelude.{◌≡◌, ℕ, ◌≤◌, length}
use mathlib.Core.List.{List}
use Rattle.order.specs.Order.{All, On, Antichain}
use Rattle.paths.specs.Graph.{Graph, Episode, Way, Thread, Along}

-- every episode has one voice
abbrev pub OneVoice : Graph → Type 0
OneVoice g = (v : ℕ) → Episode g v → g.voices v ≡ 1

-- a cover, threads in which every episode occurs; they may share episodes, and equal ones count each: a path cover
pub record Cover (g : Graph) (ts : List (List ℕ)) : Type 0 where
  pub threads : All (Thread g) ts
  pub whole : (v : ℕ) → Episode g v → On ts v

-- an apart set, no episode twice and none with a way to another: an antichain of reachability
pub record Apart (g : Graph) (s : List ℕ) : Type 0 where
  pub episodes : All (Episode g) s
  pub antichain : Antichain (Way g) s

-- no cover has fewer threads: a minimum path cover
abbrev pub Smallest : Graph → List (List ℕ) → Type 0
Smallest g ts = (us : List (List ℕ)) → Cover g us → length ts ≤ length us

-- no apart set has more members: a maximum antichain
abbrev pub Largest : Graph → List ℕ → Type 0
Largest g s = (r : List ℕ) → Apart g r → length r ≤ length s

-- `k` is the size of the smallest cover: the width
abbrev pub Width : Graph → ℕ → Type 0
Width g k = (ts : List (List ℕ)) × Cover g ts × Smallest g ts × (length ts ≡ k)

-- the largest apart set that is at least as far along as every other: the right-most maximum antichain
pub record Furthest (g : Graph) (s : List ℕ) : Type 0 where
  pub apart : Apart g s
  pub largest : Largest g s
  pub along : (r : List ℕ) → Apart g r → Largest g r → Along g r s
