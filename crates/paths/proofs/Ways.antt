-- Ways: they compose, and whether there is one can be decided.
use mathlib.Core.Path.{◌≡◌, subst}
use mathlib.Core.HLevel.{×_discrete}
use mathlib.Core.Logic.{◌⊎◌, inl, inr, ⊎_elim}
use Prim.Native.Nat.{ℕ, zero, suc, ◌<◌}
use native.Mathlib.Decide.{ℕ_discrete}
use native.Mathlib.Omega.{arith}
use Rattle.order.specs.Order.{Transitive, StrictOrder}
use Rattle.order.proofs.Lists.{dec_mem}
use Rattle.paths.specs.Graph.{Graph, Episode, Link, EndsBelow, Way, one, step, Acyclic}
use Rattle.paths.specs.Closure.{WayBelow}

module _ {g : Graph} where
  pub way_trans : Transitive (Way g)
  way_trans a b c (one l) w = step l w
  way_trans a b c (step {b = d} l v) w = step l (way_trans d b c v w)

  pub way_order : Acyclic g → StrictOrder (Way g)
  way_order acyclic = record { irreflexive = acyclic; transitive = way_trans }

  -- a way starts at an episode
  pub way_first : {a b : ℕ} → EndsBelow g → Way g a b → Episode g a
  way_first ends (one l) = (ends _ _ l).0
  way_first ends (step l w) = (ends _ _ l).0

  -- and ends at one
  pub way_last : {a b : ℕ} → EndsBelow g → Way g a b → Episode g b
  way_last ends (one l) = (ends _ _ l).1
  way_last ends (step l w) = way_last ends w

-- a graph with all links of another has its ways
pub way_map : {g h : Graph} → ((a b : ℕ) → Link g a b → Link h a b) → {a b : ℕ} → Way g a b → Way h a b
way_map f (one l) = one (f _ _ l)
way_map f (step l w) = step (f _ _ l) (way_map f w)

module _ (g : Graph) where
  pub dec_link : (a b : ℕ) → Dec (Link g a b)
  dec_link a b = dec_mem (×_discrete ℕ_discrete ℕ_discrete) (a, b) g.links

  -- whether there is a way with inner episodes below `k`
  pub dec_way_below : (k a b : ℕ) → Dec (WayBelow g k a b)
  unfolding WayBelow
  dec_way_below zero a b = dec_link a b
  dec_way_below (suc k) a b = go (dec_way_below k a b) (dec_way_below k a k) (dec_way_below k k b)
    where
      go : Dec (WayBelow g k a b) → Dec (WayBelow g k a k) → Dec (WayBelow g k k b) → Dec (WayBelow g (suc k) a b)
      go (yes w) v u = yes (inl w)
      go (no nw) (yes v) (yes u) = yes (inr (v, u))
      go (no nw) (yes v) (no nu) = no (⊎_elim nw (λ p. nu p.1))
      go (no nw) (no nv) u = no (⊎_elim nw (λ p. nv p.0))

  pub below_way : {a b : ℕ} (k : ℕ) → WayBelow g k a b → Way g a b
  unfolding WayBelow
  below_way zero l = one l
  below_way (suc k) (inl w) = below_way k w
  below_way {a} {b} (suc k) (inr p) = way_trans a k b (below_way k p.0) (below_way k p.1)

  pub link_below : {a b : ℕ} (k : ℕ) → Link g a b → WayBelow g k a b
  unfolding WayBelow
  link_below zero l = l
  link_below (suc k) l = inl (link_below k l)

  -- two such ways that meet below `k` make one
  pub below_trans : (k a v b : ℕ) → v < k → WayBelow g k a v → WayBelow g k v b → WayBelow g k a b
  unfolding WayBelow
  below_trans zero a v b h p q = let none : ⊥ = omega arith in absurd none
  below_trans (suc k) a v b h p q = go (λ x y. below_trans k x v y) (ℕ_discrete v k) p q
    where
      Here : ℕ → ℕ → Type 0
      Here = WayBelow g k

      go : ((x y : ℕ) → v < k → Here x v → Here v y → Here x y) → Dec (v ≡ k) → Here a v ⊎ (Here a k × Here k v)
          → Here v b ⊎ (Here v k × Here k b) → Here a b ⊎ (Here a k × Here k b)
      go rest (yes e) p q =
          inr
          (⊎_elim (λ w. subst (λ (x : ℕ). Here a x) e w) (λ w. w.0) p, ⊎_elim (λ w. subst (λ (x : ℕ). Here x b) e w) (λ w. w.1) q)
      go rest (no ne) (inl x) (inl y) = inl (rest a b (omega arith) x y)
      go rest (no ne) (inl x) (inr y) = inr (rest a k (omega arith) x y.0, y.1)
      go rest (no ne) (inr x) (inl y) = inr (x.0, rest k b (omega arith) x.1 y)
      go rest (no ne) (inr x) (inr y) = inr (x.0, y.1)

  -- with inner episodes below n all ways are had
  pub way_below : EndsBelow g → {a b : ℕ} → Way g a b → WayBelow g g.n a b
  way_below ends (one l) = link_below g.n l
  way_below ends (step {a = a} {b = b} {c = c} l w) =
      below_trans g.n a b c (ends a b l).1 (link_below g.n l) (way_below ends w)

  -- reachability is decidable
  pub dec_way : EndsBelow g → (a b : ℕ) → Dec (Way g a b)
  dec_way ends a b = go (dec_way_below g.n a b)
    where
      go : Dec (WayBelow g g.n a b) → Dec (Way g a b)
      go (yes w) = yes (below_way g.n w)
      go (no nw) = no (λ w. nw (way_below ends w))
