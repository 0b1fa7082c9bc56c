-- Reachability by stages: the relation that Warshall's closure holds after each round.
use Rattle.std.specs.Prelude.{◌⊎◌, ℕ, zero, suc}
use Rattle.paths.specs.Graph.{Graph, Link}

-- a way from `a` to `b` whose inner episodes are all below `k`
unfoldable pub WayBelow : Graph → ℕ → ℕ → ℕ → Type 0
WayBelow g zero a b = Link g a b
WayBelow g (suc k) a b = WayBelow g k a b ⊎ (WayBelow g k a k × WayBelow g k k b)
