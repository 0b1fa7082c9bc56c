-- Steps along the chains: they compose, two items that lead to one item or that one item leads to are on one chain, and where the
-- chains go along a strict order, one can go by induction along it.
use mathlib.Core.Path.{◌≡◌, refl, sym, subst}
use mathlib.Core.Logic.{◌⊎◌, inl, inr, ⊎_elim}
use mathlib.Core.List.Memᴰ.{head as here}
use mathlib.Core.List.{List, [], ◌∷◌}
use Prim.Native.Nat.{ℕ, zero, suc, ◌+◌, ◌-◌, ◌≤◌, ◌<◌}
use native.Mathlib.Decide.{ℕ_discrete}
use native.Mathlib.Omega.{arith}
use lib.ListN.{length}
use Rattle.order.specs.Order.{All, Transitive, StrictOrder, Chain, single, more}
use Rattle.order.proofs.Lists.{all_nil, all_cons}
use Rattle.order.proofs.Chains.{chain_nodup}
use Rattle.paths.proofs.Numbers.{nodup_below}
use Rattle.searching.specs.Items.{Tables, Matching, Steps, stay, go as ahead}

module _ {next : ℕ → ℕ} where
  pub steps_trans : {a b c : ℕ} → Steps next a b → Steps next b c → Steps next a c
  steps_trans stay q = q
  steps_trans (ahead e p) q = ahead e (steps_trans p q)

  pub steps_one : {a b : ℕ} → next a ≡ b + 1 → Steps next a b
  steps_one e = ahead e stay

  pub steps_snoc : {a b c : ℕ} → Steps next a b → next b ≡ c + 1 → Steps next a c
  steps_snoc p e = steps_trans p (steps_one e)

  pub steps_same : {a b : ℕ} → a ≡ b → Steps next a b
  steps_same {a} e = subst (λ (x : ℕ). Steps next a x) e stay

  -- no step, or a last one
  pub steps_last : {a b : ℕ} → Steps next a b → (a ≡ b) ⊎ ((d : ℕ) × Steps next a d × (next d ≡ b + 1))
  steps_last stay = inl refl
  steps_last (ahead {a = a} {b = b} {c = c} e p) = last (steps_last p)
    where
      last : (b ≡ c) ⊎ ((d : ℕ) × Steps next b d × (next d ≡ c + 1)) → (a ≡ c) ⊎ ((d : ℕ) × Steps next a d × (next d ≡ c + 1))
      last (inl q) = inr (a, stay, omega arith)
      last (inr (d, r, f)) = inr (d, ahead e r, f)

  -- no step, or one to the item behind
  pub steps_first : {a b c : ℕ} → next a ≡ b + 1 → Steps next a c → (a ≡ c) ⊎ Steps next b c
  steps_first e stay = inl refl
  steps_first {b = b} {c = c} e (ahead {b = d} f p) =
      let same : d ≡ b = omega arith in
      inr (subst (λ (y : ℕ). Steps next y c) same p)

  -- from the end of a chain one comes to nothing else
  pub steps_end : {a b : ℕ} → next a ≡ 0 → Steps next a b → a ≡ b
  steps_end z stay = refl
  steps_end z (ahead e p) = let none : ⊥ = omega arith in absurd none

  -- what one item leads to is on one chain
  pub steps_fork : {x a b : ℕ} → Steps next x a → Steps next x b → Steps next a b ⊎ Steps next b a
  steps_fork stay q = inl q
  steps_fork (ahead e p) stay = inr (ahead e p)
  steps_fork {b = b} (ahead {b = c} e p) (ahead {b = d} f q) =
      let same : d ≡ c = omega arith in
      steps_fork p (subst (λ (y : ℕ). Steps next y b) same q)

module _ {m : ℕ} {t : Tables} (matching : Matching m t) where
  -- only one item has `c` behind it
  pub next_injective : {a b c : ℕ} → a < m → b < m → c < m → t.next a ≡ c + 1 → t.next b ≡ c + 1 → a ≡ b
  next_injective {a} {b} {c} la lb lc p q =
      let e : t.prev c ≡ a + 1 = matching.there a c la lc p in
      let f : t.prev c ≡ b + 1 = matching.there b c lb lc q in
      omega arith

  pub next_below : {a b : ℕ} → a < m → t.next a ≡ b + 1 → b < m
  next_below {a} h e = let le : t.next a ≤ m = matching.next_le a h in omega arith

  -- an item ends its chain or has one behind it
  pub next_cases : (a : ℕ) → a < m → (t.next a ≡ 0) ⊎ ((b : ℕ) × (b < m) × (t.next a ≡ b + 1))
  next_cases a h = by (ℕ_discrete (t.next a) 0)
    where
      by : Dec (t.next a ≡ 0) → (t.next a ≡ 0) ⊎ ((b : ℕ) × (b < m) × (t.next a ≡ b + 1))
      by (yes z) = inl z
      by (no nz) = let le : t.next a ≤ m = matching.next_le a h in inr (t.next a - 1, omega arith, omega arith)

  -- an item starts its chain or has one before it
  pub prev_cases : (b : ℕ) → b < m → (t.prev b ≡ 0) ⊎ ((a : ℕ) × (a < m) × (t.next a ≡ b + 1))
  prev_cases b h = by (ℕ_discrete (t.prev b) 0)
    where
      by : Dec (t.prev b ≡ 0) → (t.prev b ≡ 0) ⊎ ((a : ℕ) × (a < m) × (t.next a ≡ b + 1))
      by (yes z) = inl z
      by (no nz) =
          let le : t.prev b ≤ m = matching.prev_le b h in
          let la : t.prev b - 1 < m = omega arith in
          inr (t.prev b - 1, la, matching.back (t.prev b - 1) b la h (omega arith))

  pub steps_below : {a b : ℕ} → a < m → Steps t.next a b → b < m
  steps_below h stay = h
  steps_below h (ahead e p) = steps_below (next_below h e) p

  -- what leads to one item is on one chain
  pub steps_join : {a b x : ℕ} → a < m → b < m → Steps t.next a x → Steps t.next b x
      → Steps t.next a b ⊎ Steps t.next b a
  steps_join la lb stay q = inr q
  steps_join {b = b} la lb (ahead {a = a} {b = c} e p) q = join (steps_join lc lb p q)
    where
      lc : c < m
      lc = next_below la e

      join : Steps t.next c b ⊎ Steps t.next b c → Steps t.next a b ⊎ Steps t.next b a
      join (inl r) = inl (ahead e r)
      join (inr r) = last (steps_last r)
        where
          last : (b ≡ c) ⊎ ((d : ℕ) × Steps t.next b d × (t.next d ≡ c + 1)) → Steps t.next a b ⊎ Steps t.next b a
          last (inl f) = inl (ahead e (steps_same (sym f)))
          last (inr (d, s, f)) =
              let same : d ≡ a = next_injective (steps_below lb s) la lc f e in
              inr (subst (λ (y : ℕ). Steps t.next b y) same s)

  module _ {R : ℕ → ℕ → Type 0} (trans : Transitive R) (pairs : (a b : ℕ) → a < m → b < m → t.next a ≡ b + 1 → R a b) where
    -- steps go along the order
    pub steps_way : {a b : ℕ} → a < m → Steps t.next a b → (a ≡ b) ⊎ R a b
    steps_way h stay = inl refl
    steps_way h (ahead {a = a} {b = b} {c = c} e p) =
        let lb : b < m = next_below h e in
        let r : R a b = pairs a b h lb e in
        inr (⊎_elim (λ q. subst (λ (y : ℕ). R a y) q r) (λ s. trans a b c r s) (steps_way lb p))

-- Induction along a strict order on the numbers below `m`: those passed are a chain, so at most `m`.
module _ {R : ℕ → ℕ → Type 0} (order : StrictOrder R) (m : ℕ) (P : ℕ → Type 0)
    (each : (x : ℕ) → x < m → ((y : ℕ) → y < m → R y x → P y) → P x) where
  descend : (fuel x : ℕ) (l : List ℕ) → Chain R (x ∷ l) → All (λ v. v < m) (x ∷ l) → m < fuel + length (x ∷ l) → P x
  descend zero x l c below h =
      let le : length (x ∷ l) ≤ m = nodup_below m (x ∷ l) (chain_nodup order c) below in
      let none : ⊥ = omega arith in
      absurd none
  descend (suc fuel) x l c below h =
      each x (below x (here refl))
      (λ y ly r. descend fuel y (x ∷ l) (more r c) (all_cons ly below) (omega arith))

  pub order_induction : (x : ℕ) → x < m → P x
  order_induction x h = descend m x [] single (all_cons h (all_nil _)) (omega arith)

-- the order turned round
pub turned : {R : ℕ → ℕ → Type 0} → StrictOrder R → StrictOrder (λ (a b : ℕ). R b a)
turned order = record { irreflexive = order.irreflexive; transitive = λ a b c r s. order.transitive c b a s r }
