-- A loop of a graph from a search: where each episode but `v` stands behind itself, a search that finds nothing shows that `v` has no
-- way to itself, and one that makes a chain fewer leaves a loop through `v`.
use Rattle.std.proofs.lemmas.Grind.{common_steps}
use mathlib.Core.Path.{◌≡◌, refl, sym, subst}
use mathlib.Core.Logic.{◌⊎◌, inl, inr, ⊎_elim, ◌≢◌}
use mathlib.Core.List.Memᴰ
use mathlib.Core.List.Memᴰ.{append_cases}
use mathlib.Core.List.Memᴰ.{cases_cons as mem-cases}
use mathlib.Core.List.Memᴰ.{eq_of_singleton}
use mathlib.Core.List.Memᴰ.{head as here}
use mathlib.Core.List.Memᴰ.{not-nil}
use mathlib.Core.List.Memᴰ.{tail as later}
use mathlib.Core.List.Pairwise
use mathlib.Core.List.{
  List,
  [],
  ◌∷◌,
  ◌++◌,
  Memᴰ as Mem,
  Nodup,
}
use Prim.Native.Nat.{ℕ, zero, suc, ◌+◌, ◌-◌, ◌≤◌, ◌<◌}
use native.Mathlib.Decide.{ℕ_discrete, dec_lt}
use native.Mathlib.Omega.{arith}
use lib.ListN.{length, length-append}
use Rattle.order.specs.Order.{All, Chain, single, more}
use Rattle.order.proofs.Lists.{all_nil, all_cons, nodup_cons, nodup_append}
use Rattle.paths.specs.Graph.{Graph, Episode, Link, EndsBelow, Way, one, step, Loop}
use Rattle.paths.proofs.Ways.{way_trans}
use Rattle.paths.proofs.Numbers.{nodup_below}
use Rattle.paths.proofs.Loops.{walk_way}
use Rattle.searching.specs.Items.{Tables, SameChains, Spent, Dead, Shrunk}
use Rattle.chains.specs.Cycles.{Selves, Walking}

module _ {g : Graph} {t t' : Tables} {dead : ℕ → ℕ} {v : ℕ} (ends : EndsBelow g) (s : Selves g.n t v) where
  -- a search that finds nothing shows that `v` has no way to itself
  pub no_way_back : SameChains g.n t t' → Dead g.n (Link g) t' dead (v + 1) → Way g v v → ⊥
  no_way_back same x w =
      let e = same.prev_same v s.below in
      let f = s.prev_end in
      let h = x.kept v s.below (reach w (inl (omega arith, let i = same.next_same v s.below in let j = s.next_end in omega arith))) in
      omega arith
    where
      spent_again : (a : ℕ) → a < g.n → dead a ≡ 1 → Spent g.n t' dead (v + 1) a
      spent_again a al h = grind (arith, common_steps)

      reach : {a b : ℕ} → Way g a b → Spent g.n t' dead (v + 1) a → dead b ≡ 1
      reach (one {a = a} {b = b} l) o = let (al, bl) = ends a b l in x.closed a b al bl o l
      reach (step {a = a} {b = b} l w) o =
          let (al, bl) = ends a b l in
          reach w (spent_again b bl (x.closed a b al bl o l))

-- after a shrink each item has one behind it
pub shrunk_next : {m v : ℕ} {R : ℕ → ℕ → Type 0} {t t' : Tables} → Selves m t v → Shrunk m R t t' → (x : ℕ) → x < m → 0 < t'.next x
shrunk_next s k x xl = grind (arith, common_steps)

-- what follows on a chain has one before it there
chain_prior : {S : ℕ → ℕ → Type 0} {y : ℕ} (a : ℕ) (p : List ℕ) (x : ℕ) → Chain S (a ∷ p ++ x ∷ []) → Mem y (p ++ x ∷ [])
    → (z : ℕ) × Mem z (a ∷ p) × S z y
chain_prior {S} {y} a [] x (more h k) m = (a, here refl, subst (λ (u : ℕ). S a u) (sym (eq_of_singleton m)) h)
chain_prior {S} {y} a (b ∷ p) x (more h k) m = go (chain_prior b p x k) (mem-cases m)
  where
    go : (Mem y (p ++ x ∷ []) → (z : ℕ) × Mem z (b ∷ p) × S z y) → (y ≡ b) ⊎ Mem y (p ++ x ∷ []) → (z : ℕ) × Mem z (a ∷ b ∷ p) × S z y
    go rest (inl e) = (a, here refl, subst (λ (u : ℕ). S a u) (sym e) h)
    go rest (inr n) = let (z, i, j) = rest n in (z, later i, j)

-- a chain grows at its end
chain_grow : {S : ℕ → ℕ → Type 0} (c : List ℕ) (x y : ℕ) → Chain S (c ++ x ∷ []) → S x y → Chain S ((c ++ x ∷ []) ++ y ∷ [])
chain_grow [] x y k h = more h single
chain_grow (a ∷ []) x y (more i k) h = more i (more h single)
chain_grow (a ∷ b ∷ c) x y (more i k) h = more i (chain_grow (b ∷ c) x y k h)

module _ {g : Graph} {t : Tables} {v x : ℕ} {c : List ℕ} (w : Walking g t v c x) where
  walk_episodes : All (Episode g) (c ++ x ∷ [])
  walk_episodes u m =
      ⊎_elim (w.episodes u) (λ n. let e : u ≡ x = eq_of_singleton n in rw e w.next_episode) (append_cases c m)

  walk_once : x ≢ v → Nodup (c ++ x ∷ [])
  walk_once ne =
      nodup_append c (x ∷ []) w.once (nodup_cons not-nil Pairwise.nil)
      (λ u m n. w.new ne (Memᴰ.cast (sym (eq_of_singleton n)) m))

  pub walk_short : x ≢ v → length c + 1 ≤ g.n
  walk_short ne =
      let h : length (c ++ x ∷ []) ≤ g.n = nodup_below g.n (c ++ x ∷ []) (walk_once ne) walk_episodes in
      let e = length-append c (x ∷ []) in
      omega arith

-- back at `v`, what is written is a loop
pub walk_end : {g : Graph} {t : Tables} {v : ℕ} {c : List ℕ} → Walking g t v c v → (o : Loop g c) × (o.first ≡ v)
walk_end {v = v} w =
    (record { first = v; others = w.others; parts = w.parts; episodes = w.episodes; once = w.once; closed = w.links }, refl)

-- what is behind an item is an item
low : {m : ℕ} {R : ℕ → ℕ → Type 0} {t t' : Tables} → Shrunk m R t t' → (x y : ℕ) → x < m → t'.next x ≡ y + 1 → y < m
low k x y xl h = let i = k.matching.next_le x xl in omega arith

module _ {g : Graph} {t t' : Tables} {v : ℕ} (s : Selves g.n t v) (k : Shrunk g.n (Link g) t t') where
  pub walk_start : {x : ℕ} → t'.next v ≡ x + 1 → Walking g t' v (v ∷ []) x
  walk_start {x} h =
      record {
        others = [];
        parts = refl;
        episodes = all_cons s.below (all_nil _);
        next_episode = low k v x s.below h;
        once = nodup_cons not-nil Pairwise.nil;
        new = λ ne m. ne (eq_of_singleton m);
        links = more link single;
        nexts = more h single;
      }
    where
      link : Link g v x
      link =
          ⊎_elim (λ e. let f = s.next_end in let bad : ⊥ = omega arith in absurd bad) (λ l. l)
          (k.pairs v x s.below (low k v x s.below h) h)

  -- one episode more
  pub walk_on : {c : List ℕ} {x y : ℕ} → Walking g t' v c x → x ≢ v → t'.next x ≡ y + 1 → Walking g t' v (c ++ x ∷ []) y
  walk_on {c} {x} {y} w ne h =
      record {
        others = w.others ++ x ∷ [];
        parts = rw w.parts;
        episodes = walk_episodes w;
        next_episode = yl;
        once = walk_once w ne;
        new = new;
        links = chain_grow c x y w.links link;
        nexts = chain_grow c x y w.nexts h;
      }
    where
      yl : y < g.n
      yl = low k x y w.next_episode h

      -- the one before `y` would be `x`, which was not written yet
      new : y ≢ v → Mem y (c ++ x ∷ []) → ⊥
      new nv m = go (chain_prior v w.others x (rw w.parts at w.nexts) rest)
        where
          rest : Mem y (w.others ++ x ∷ [])
          rest = ⊎_elim (λ e. absurd (nv e)) (λ n. n) (mem-cases (rw w.parts at m))

          go : (z : ℕ) × Mem z (v ∷ w.others) × (t'.next z ≡ y + 1) → ⊥
          go (z, n, i) =
              let o : Mem z c = rw w.parts n in
              let e = k.matching.there z y (w.episodes z o) yl i in
              let f = k.matching.there x y w.next_episode yl h in
              let j : x ≡ z = omega arith in
              w.new ne (rw j o)

      link : Link g x y
      link = ⊎_elim same (λ l. l) (k.pairs x y w.next_episode yl h)
        where
          same : t.next x ≡ y + 1 → Link g x y
          same e =
              let f = s.next_self x w.next_episode ne in
              let j : y ≡ x = omega arith in
              absurd (new (λ i. ne (omega arith)) (Memᴰ.append_right c (here j)))

  -- the walk goes on until it is back at `v`, so what is written is a part of a loop
  pub walk_closes : (j : ℕ) {c : List ℕ} {x : ℕ} → g.n < length c + j → Walking g t' v c x
      → (whole : List ℕ) × Loop g whole × (length c ≤ length whole)
  walk_closes zero {c} {x} most w = absurd (past (ℕ_discrete x v))
    where
      past : Dec (x ≡ v) → ⊥
      past (yes e) = let h : length c ≤ g.n = nodup_below g.n c w.once w.episodes in omega arith
      past (no ne) = let h = walk_short w ne in omega arith
  walk_closes (suc j) {c} {x} most w = go (ℕ_discrete x v) (λ y. walk_closes j {c = c ++ x ∷ []} {x = y} (omega (arith, length-append c (x ∷ []))))
    where
      go : Dec (x ≡ v) → ((y : ℕ) → Walking g t' v (c ++ x ∷ []) y → (whole : List ℕ) × Loop g whole × (length (c ++ x ∷ []) ≤ length whole))
          → (whole : List ℕ) × Loop g whole × (length c ≤ length whole)
      go (yes e) rest = (c, (walk_end (subst (λ (u : ℕ). Walking g t' v c u) e w)).0, omega arith)
      go (no ne) rest =
          let some : 0 < t'.next x = shrunk_next s k x w.next_episode in
          let (whole, loop, le) = rest (t'.next x - 1) (walk_on w ne (omega arith)) in
          (whole, loop, omega (arith, length-append c (x ∷ [])))

module _ {g : Graph} where
  -- from each episode of a walk there is a way to its end
  onward : {u : ℕ} (a : ℕ) (p : List ℕ) (x : ℕ) → Chain (Link g) (a ∷ p ++ x ∷ []) → Mem u (a ∷ p) → Way g u x
  onward a [] x (more l k) m = subst (λ (y : ℕ). Way g y x) (sym (eq_of_singleton m)) (one l)
  onward {u} a (b ∷ p) x (more l k) m = go (λ n. onward b p x k n) (mem-cases m)
    where
      go : (Mem u (b ∷ p) → Way g u x) → (u ≡ a) ⊎ Mem u (b ∷ p) → Way g u x
      go rest (inl e) = subst (λ (y : ℕ). Way g y x) (sym e) (step l (walk_way b p x k))
      go rest (inr n) = rest n

  -- to each of the others there is one from its start
  outward : {u : ℕ} (a : ℕ) (p : List ℕ) (x : ℕ) → Chain (Link g) (a ∷ p ++ x ∷ []) → Mem u p → Way g a u
  outward a [] x k m = absurd (not-nil m)
  outward {u} a (b ∷ p) x (more l k) m = go (λ n. outward b p x k n) (mem-cases m)
    where
      go : (Mem u p → Way g b u) → (u ≡ b) ⊎ Mem u p → Way g a u
      go rest (inl e) = subst (λ (y : ℕ). Way g a y) (sym e) (one l)
      go rest (inr n) = step l (rest n)

  -- each episode of a loop has a way to itself
  loop_member_way : {c : List ℕ} → Loop g c → All (λ u. Way g u u) c
  loop_member_way {c} o u m = go (mem-cases (rw o.parts at m))
    where
      k : Chain (Link g) (o.first ∷ o.others ++ o.first ∷ [])
      k = rw o.parts at o.closed

      go : (u ≡ o.first) ⊎ Mem u o.others → Way g u u
      go (inl e) = rw e (walk_way o.first o.others o.first k)
      go (inr n) =
          way_trans u o.first u (onward o.first o.others o.first k (later n)) (outward o.first o.others o.first k n)

  -- where no episode below `v` has a way to itself, a loop holds none of them
  pub loop_least : {v : ℕ} {c : List ℕ} → ((u : ℕ) → u < v → Way g u u → ⊥) → Loop g c → All (λ u. v ≤ u) c
  loop_least {v} none o u m = go (dec_lt u v)
    where
      go : Dec (u < v) → v ≤ u
      go (yes l) = absurd (none u l (loop_member_way o u m))
      go (no nl) = omega arith
