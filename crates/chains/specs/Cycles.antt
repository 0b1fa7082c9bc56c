-- A loop from a search: at first each item but one stands behind itself, and where a search can join that one too, the chain from it
-- leads back to it along links.
use Rattle.std.specs.Prelude.{◌≡◌, ◌≢◌, ℕ, ◌+◌, ◌<◌}
use mathlib.Core.List.{List, [], ◌∷◌, ◌++◌, Memᴰ as Mem, Nodup}
use Rattle.order.specs.Order.{All, Chain}
use Rattle.paths.specs.Graph.{Graph, Episode, Link}
use Rattle.searching.specs.Items.{Tables}

-- each item stands behind itself, except `v`, behind which there is none and which stands behind none
pub record Selves (m : ℕ) (t : Tables) (v : ℕ) : Type 0 where
  pub below : v < m
  pub next_end : t.next v ≡ 0
  pub prev_end : t.prev v ≡ 0
  pub next_self : (a : ℕ) → a < m → a ≢ v → t.next a ≡ a + 1
  pub prev_self : (a : ℕ) → a < m → a ≢ v → t.prev a ≡ a + 1

-- A loop from `v` is being written: `c` holds what is written, and `x` comes next.
pub record Walking (g : Graph) (t : Tables) (v : ℕ) (c : List ℕ) (x : ℕ) : Type 0 where
  pub others : List ℕ
  pub parts : c ≡ v ∷ others
  pub episodes : All (Episode g) c
  pub next_episode : Episode g x
  pub once : Nodup c
  pub new : x ≢ v → Mem x c → ⊥
  pub links : Chain (Link g) (c ++ x ∷ [])
  pub nexts : Chain (λ a b. t.next a ≡ b + 1) (c ++ x ∷ [])
