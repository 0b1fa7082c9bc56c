-- How many threads pass an episode, and how many of some episodes a thread holds: counted by episodes and counted by threads it is the same number,
-- that of the pairs of an episode and a thread that passes it.
use mathlib.Core.Path.{◌≡◌, refl, sym, ap, subst}
use mathlib.Core.Bool.{Bool, true, false, true≢false, or-true}
use mathlib.Core.Logic.{⊎_elim}
use mathlib.Core.List.Memᴰ
use mathlib.Core.List.Memᴰ.{cases_cons as mem-cases}
use mathlib.Core.List.Memᴰ.{head as here}
use mathlib.Core.List.Memᴰ.{not-nil}
use mathlib.Core.List.Memᴰ.{tail as there}
use mathlib.Core.List.{
  List,
  [],
  ◌∷◌,
  Memᴰ as Mem,
  Nodup,
}
use Prim.Native.Nat.{ℕ, suc, zero-le, ◌+◌, ◌≤◌}
use native.Mathlib.Omega.{arith}
use lib.Dec.{eqb}
use lib.ListN.{length}
use borrow.Author.Tests.{eqb-true, eq-eqb}
use Rattle.order.specs.Order.{All, On}
use Rattle.order.proofs.Lists.{all_nil, all_cons, nodup_head, nodup_tail, on_there}
use Rattle.paths.specs.Graph.{Graph, member, passing_threads, weight}
use Rattle.paths.proofs.Links.{either}

-- `member` tests whether the number is a member
pub member_mem : (v : ℕ) (l : List ℕ) → member v l ≡ true → Mem v l
unfolding member
member_mem v [] e = absurd (true≢false (sym e))
member_mem v (x ∷ l) e = ⊎_elim (λ f. here (eqb-true v x f)) (λ f. there (member_mem v l f)) (either (eqb v x) (member v l) e)

pub mem_member : (v : ℕ) (l : List ℕ) → Mem v l → member v l ≡ true
unfolding member
mem_member v [] m = absurd (not-nil m)
mem_member v (x ∷ l) m = ⊎_elim (λ e. rw (eq-eqb v x e)) (λ n. rw (mem_member v l n, or-true)) (mem-cases m)

-- 1 for yes and 0 for no
abbrev pub tally : Bool → ℕ
tally true = 1
tally false = 0

pub tally_yes : (b : Bool) → b ≡ true → tally b ≡ 1
tally_yes true e = refl
tally_yes false e = absurd (true≢false (sym e))

pub tally_no : (b : Bool) → (b ≡ true → ⊥) → tally b ≡ 0
tally_no true n = absurd (n refl)
tally_no false n = refl

-- one thread more
pub passing_cons : (v : ℕ) (t : List ℕ) (ts : List (List ℕ)) → passing_threads v (t ∷ ts) ≡ tally (member v t) + passing_threads v ts
unfolding passing_threads
passing_cons v t ts = go (member v t)
  where
    go : (b : Bool) → elim b [ true ↦ suc (passing_threads v ts) | false ↦ passing_threads v ts ] ≡ tally b + passing_threads v ts
    go true = omega arith
    go false = omega arith

pub passing_none : (v : ℕ) → passing_threads v [] ≡ 0
unfolding passing_threads
passing_none v = refl

pub passing_held : {v : ℕ} {t : List ℕ} (ts : List (List ℕ)) → Mem v t → passing_threads v (t ∷ ts) ≡ suc (passing_threads v ts)
passing_held {v} {t} ts m = omega (arith, passing_cons v t ts, tally_yes (member v t) (mem_member v t m))

pub passing_not : {v : ℕ} {t : List ℕ} (ts : List (List ℕ)) → (Mem v t → ⊥) → passing_threads v (t ∷ ts) ≡ passing_threads v ts
passing_not {v} {t} ts n = omega (arith, passing_cons v t ts, tally_no (member v t) (λ e. n (member_mem v t e)))

-- what is on one of the threads is passed, and the other way round
pub on_passed : {v : ℕ} (ts : List (List ℕ)) → On ts v → 1 ≤ passing_threads v ts
on_passed [] o = absurd (not-nil o.1)
on_passed {v} (t ∷ ts) (u, m, n) =
    ⊎_elim (λ e. omega (arith, passing_held ts (subst (λ (l : List ℕ). Mem v l) e n)))
    (λ k. omega (arith, passing_cons v t ts, on_passed ts (u, k, n)))
    (mem-cases m)

pub passed_on : {v : ℕ} (ts : List (List ℕ)) → 1 ≤ passing_threads v ts → On ts v
passed_on {v} [] h = absurd (omega (arith, passing_none v))
passed_on {v} (t ∷ ts) h = go (member v t) refl (passed_on ts)
  where
    go : (b : Bool) → member v t ≡ b → (1 ≤ passing_threads v ts → On ts v) → On (t ∷ ts) v
    go true e rest = (t, here refl, member_mem v t e)
    go false e rest = on_there (rest (omega (arith, passing_cons v t ts, ap tally e)))

-- how many of the episodes the thread holds
unfoldable pub held : List ℕ → List ℕ → ℕ
held t [] = 0
held t (v ∷ s) = tally (member v t) + held t s

-- how many threads pass each of the episodes, together
unfoldable pub crossings : List (List ℕ) → List ℕ → ℕ
crossings ts [] = 0
crossings ts (v ∷ s) = passing_threads v ts + crossings ts s

pub held_none : (t s : List ℕ) → All (λ v. Mem v t → ⊥) s → held t s ≡ 0
unfolding held
held_none t [] h = refl
held_none t (v ∷ s) h =
    omega (arith, tally_no (member v t) (λ e. h v (here refl) (member_mem v t e)), held_none t s (λ x m. h x (there m)))

-- at most one, where any two of them that are on the thread are the same
pub held_one : (t s : List ℕ) → Nodup s → ((x y : ℕ) → Mem x s → Mem y s → Mem x t → Mem y t → x ≡ y) → held t s ≤ 1
unfolding held
held_one t [] p h = omega arith
held_one t (v ∷ s) p h = go (member v t) refl (held_one t s (nodup_tail p) (λ x y m n. h x y (there m) (there n)))
  where
    go : (b : Bool) → member v t ≡ b → held t s ≤ 1 → tally (member v t) + held t s ≤ 1
    go true e rest =
        let others : All (λ x. Mem x t → ⊥) s =
        λ x m n. nodup_head p (Memᴰ.cast (h v x (here refl) (there m) (member_mem v t e) n) m) in
        omega (arith, ap tally e, held_none t s others)
    go false e rest = omega (arith, ap tally e)

pub held_some : (t s : List ℕ) → 1 ≤ held t s → (x : ℕ) × Mem x s × Mem x t
unfolding held
held_some t [] h = absurd (omega arith)
held_some t (v ∷ s) h = go (member v t) refl (held_some t s)
  where
    go : (b : Bool) → member v t ≡ b → (1 ≤ held t s → (x : ℕ) × Mem x s × Mem x t) → (x : ℕ) × Mem x (v ∷ s) × Mem x t
    go true e rest = (v, here refl, member_mem v t e)
    go false e rest = let r = rest (omega (arith, ap tally e)) in (r.0, there r.1, r.2)

-- one thread more crosses the episodes that it holds
crossings_cons : (t : List ℕ) (ts : List (List ℕ)) (s : List ℕ) → crossings (t ∷ ts) s ≡ held t s + crossings ts s
unfolding held crossings
crossings_cons t ts [] = refl
crossings_cons t ts (v ∷ s) = omega (arith, passing_cons v t ts, crossings_cons t ts s)

crossings_none : (s : List ℕ) → crossings [] s ≡ 0
unfolding crossings
crossings_none [] = refl
crossings_none (v ∷ s) = omega (arith, passing_none v, crossings_none s)

-- threads that hold at most one each cross the episodes at most as often as they are many
pub crossings_le : (ts : List (List ℕ)) (s : List ℕ) → All (λ t. held t s ≤ 1) ts → crossings ts s ≤ length ts
crossings_le [] s h = omega (arith, crossings_none s)
crossings_le (t ∷ ts) s h = omega (arith, crossings_cons t ts s, h t (here refl), crossings_le ts s (λ u m. h u (there m)))

-- and where they cross as often as they are many, each holds one
pub crossings_full : (ts : List (List ℕ)) (s : List ℕ) → All (λ t. held t s ≤ 1) ts → length ts ≤ crossings ts s → All (λ t. 1 ≤ held t s) ts
crossings_full [] s h full = all_nil _
crossings_full (t ∷ ts) s h full =
    let rest : All (λ u. held u s ≤ 1) ts = λ u m. h u (there m) in
    let one : held t s ≤ 1 = h t (here refl) in
    let le : crossings ts s ≤ length ts = crossings_le ts s rest in
    let e : crossings (t ∷ ts) s ≡ held t s + crossings ts s = crossings_cons t ts s in
    all_cons (omega arith) (crossings_full ts s rest (omega arith))

module _ (g : Graph) (ts : List (List ℕ)) where
  -- enough threads cross episodes at least as often as these have voices
  pub weight_crossings : (s : List ℕ) → All (λ v. g.voices v ≤ passing_threads v ts) s → weight g s ≤ crossings ts s
  unfolding weight crossings
  weight_crossings [] h = zero-le
  weight_crossings (v ∷ s) h = omega (arith, h v (here refl), weight_crossings s (λ x m. h x (there m)))

  -- and where they do so no more often, each is passed by as many threads as it has voices
  pub weight_full : (s : List ℕ) → All (λ v. g.voices v ≤ passing_threads v ts) s → crossings ts s ≤ weight g s
      → All (λ v. passing_threads v ts ≡ g.voices v) s
  unfolding weight crossings
  weight_full [] h full = all_nil _
  weight_full (v ∷ s) h full =
      let rest : All (λ x. g.voices x ≤ passing_threads x ts) s = λ x m. h x (there m) in
      let one : g.voices v ≤ passing_threads v ts = h v (here refl) in
      let le : weight g s ≤ crossings ts s = weight_crossings s rest in
      all_cons (omega arith) (weight_full s rest (omega arith))
