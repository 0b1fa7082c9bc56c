-- Loops: a graph is acyclic exactly when it has none. A walk that comes back to its start holds a loop, from an episode to its next
-- visit.
use mathlib.Core.Path.{◌≡◌, refl, sym, subst}
use mathlib.Core.Logic.{◌⊎◌, inl, inr, ⊎_elim, ◌↔◌}
use mathlib.Core.List.Memᴰ
use mathlib.Core.List.Memᴰ.{cases_cons as mem-cases}
use mathlib.Core.List.Memᴰ.{head as here}
use mathlib.Core.List.Memᴰ.{not-nil}
use mathlib.Core.List.Memᴰ.{tail as there}
use mathlib.Core.List.Pairwise
use mathlib.Core.List.{
  List,
  [],
  ◌∷◌,
  ◌++◌,
  map,
  Memᴰ as Mem,
  Nodup,
}
use Prim.Native.Nat.{ℕ, zero, suc, ◌≤◌, ◌<◌}
use native.Mathlib.Decide.{ℕ_discrete}
use native.Mathlib.Omega.{arith}
use lib.ListN.{length, length-map}
use Rattle.order.specs.Order.{All, Chain, single, more}
use Rattle.order.proofs.Lists.{all_nil, all_cons, dec_mem, nodup_cons, nodup_head, nodup_tail, nodup_le}
use Rattle.paths.specs.Graph.{Graph, Episode, Link, EndsBelow, Way, one, step, Acyclic, Loop}
use Rattle.paths.proofs.Ways.{way_first, dec_way}

-- A walk from `a` along members of `t` that ends at `x`: `part` is what stands between the two, and where `t` has no element
-- twice, neither has `part`, nor does it hold `x`.
record Before {A : Type 0} (R : A → A → Type 0) (a x : A) (t : List A) : Type 0 where
  part : List A
  walk : Chain R ((a ∷ part) ++ x ∷ [])
  within : All (λ y. Mem y t) part
  once : Nodup t → Nodup part
  new : Nodup t → Mem x part → ⊥

before : {A : Type 0} {R : A → A → Type 0} {a x : A} {t : List A} → Chain R (a ∷ t) → Mem x t → Before R a x t
before single m = absurd (not-nil m)
before {A} {R} {a} {x} (more {b = b} {l = t} r c) m = go (before c) (mem-cases m)
  where
    go : (Mem x t → Before R b x t) → (x ≡ b) ⊎ Mem x t → Before R a x (b ∷ t)
    go rest (inl e) =
        record {
          part = [];
          walk = more (subst (λ (y : A). R a y) (sym e) r) single;
          within = all_nil _;
          once = λ p. Pairwise.nil;
          new = λ p. not-nil;
        }
    go rest (inr n) = further (rest n)
      where
        further : Before R b x t → Before R a x (b ∷ t)
        further q =
            record {
              part = b ∷ q.part;
              walk = more r q.walk;
              within = all_cons (here refl) (λ y o. there (q.within y o));
              once = λ p. nodup_cons (λ o. nodup_head p (q.within b o)) (q.once (nodup_tail p));
              new = λ p o. ⊎_elim (λ e. nodup_head p (Memᴰ.cast (sym e) n)) (q.new (nodup_tail p)) (mem-cases o);
            }

-- each element of a walk but its last has one behind it
chain_next : {A : Type 0} {R : A → A → Type 0} (a : A) (p : List A) (x : A) → Chain R (a ∷ p ++ x ∷ []) → All (λ v. (y : A) × R v y) (a ∷ p)
chain_next a [] x (more r c) = all_cons (x, r) (all_nil _)
chain_next a (b ∷ p) x (more r c) = all_cons (b, r) (chain_next b p x c)

-- what a link leaves is an episode
walk_episodes : (g : Graph) → EndsBelow g → (a : ℕ) (p : List ℕ) (x : ℕ) → Chain (Link g) (a ∷ p ++ x ∷ []) → All (Episode g) (a ∷ p)
walk_episodes g ends a p x c v m = let (y, l) = chain_next a p x c v m in (ends v y l).0

module _ {g : Graph} where
  -- a walk leads from its first episode to its last
  pub walk_way : (a : ℕ) (p : List ℕ) (x : ℕ) → Chain (Link g) (a ∷ p ++ x ∷ []) → Way g a x
  walk_way a [] x (more l c) = one l
  walk_way a (b ∷ p) x (more l c) = step l (walk_way b p x c)

  way_walk : {a b : ℕ} → Way g a b → (p : List ℕ) × Chain (Link g) (a ∷ p ++ b ∷ [])
  way_walk (one l) = ([], more l single)
  way_walk (step {b = b} l w) = let r = way_walk w in (b ∷ r.0, more l r.1)

  -- a loop leads from its first episode back to it
  pub loop_way : {c : List ℕ} (o : Loop g c) → Way g o.first o.first
  loop_way o =
      walk_way o.first o.others o.first
      (subst (λ (l : List ℕ). Chain (Link g) (l ++ o.first ∷ [])) o.parts o.closed)

  -- different episodes have different links, so a loop has at most as many episodes as there are links
  pub loop_few : {c : List ℕ} → Loop g c → length c ≤ length g.links
  loop_few {c} o =
      let from : ℕ × ℕ → ℕ = λ l. l.0 in
      let le : length c ≤ length (map from g.links) =
      nodup_le ℕ_discrete c (map from g.links) o.once (λ v m. Memᴰ.map from (links v (rw o.parts at m)).1) in
      omega (arith, length-map g.links from)
    where
      links : All (λ v. (y : ℕ) × Link g v y) (o.first ∷ o.others)
      links = chain_next o.first o.others o.first (rw o.parts at o.closed)

  module _ (ends : EndsBelow g) where
    -- the episodes of a walk are all different, or some of them are a loop
    walk_loop : {l : List ℕ} → Chain (Link g) l → Nodup l ⊎ ((c : List ℕ) × Loop g c)
    walk_loop single = inl (nodup_cons not-nil Pairwise.nil)
    walk_loop (more {a = a} {b = b} {l = t} k c) = go (walk_loop c) (dec_mem ℕ_discrete a (b ∷ t))
      where
        go : Nodup (b ∷ t) ⊎ ((c : List ℕ) × Loop g c) → Dec (Mem a (b ∷ t)) → Nodup (a ∷ b ∷ t) ⊎ ((c : List ℕ) × Loop g c)
        go (inr o) d = inr o
        go (inl p) (no nm) = inl (nodup_cons nm p)
        go (inl p) (yes m) =
            let q = before (more k c) m in
            inr (
              a ∷ q.part,
              record {
                first = a;
                others = q.part;
                parts = refl;
                episodes = walk_episodes g ends a q.part a q.walk;
                once = nodup_cons (q.new p) (q.once p);
                closed = q.walk;
              },
            )

    -- from a way from `v` to `v` a loop can be had
    pub way_loop : {v : ℕ} → Way g v v → (c : List ℕ) × Loop g c
    way_loop {v} w = go (way_walk w)
      where
        go : (p : List ℕ) × Chain (Link g) (v ∷ p ++ v ∷ []) → (c : List ℕ) × Loop g c
        go (p, c) = ⊎_elim (λ d. absurd (nodup_head d (Memᴰ.append_right p (here refl)))) (λ o. o) (walk_loop c)

    pub acyclic_no_loop : Acyclic g ↔ ((c : List ℕ) → Loop g c → ⊥)
    acyclic_no_loop = (λ acyclic c o. acyclic o.first (loop_way o), λ none v w. let o = way_loop w in none o.0 o.1)

    -- no episode below `k` has a way to itself, or there is a loop
    below_loop : (k : ℕ) → ((v : ℕ) → v < k → Way g v v → ⊥) ⊎ ((c : List ℕ) × Loop g c)
    below_loop zero = inl (λ v h. let none : ⊥ = omega arith in absurd none)
    below_loop (suc k) = go (below_loop k) (dec_way g ends k k)
      where
        go : ((v : ℕ) → v < k → Way g v v → ⊥) ⊎ ((c : List ℕ) × Loop g c) → Dec (Way g k k)
            → ((v : ℕ) → v < suc k → Way g v v → ⊥) ⊎ ((c : List ℕ) × Loop g c)
        go (inr o) d = inr o
        go (inl h) (yes w) = inr (way_loop w)
        go (inl h) (no nw) = inl (λ v lt w. last v lt w (ℕ_discrete v k))
          where
            last : (v : ℕ) → v < suc k → Way g v v → Dec (v ≡ k) → ⊥
            last v lt w (yes e) = nw (subst (λ (x : ℕ). Way g x x) e w)
            last v lt w (no ne) = h v (omega arith) w

    -- a graph is acyclic or has a loop
    pub acyclic_or_loop : Acyclic g ⊎ ((c : List ℕ) × Loop g c)
    acyclic_or_loop = ⊎_elim (λ h. inl (λ v w. h v (way_first ends w) w)) inr (below_loop g.n)
