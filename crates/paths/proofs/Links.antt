-- The different links of a graph: they are its links, none twice, so any list of that kind is as long.
use mathlib.Core.Path.{◌≡◌, refl, ap, sym, ap₂, ◌∙◌}
use mathlib.Core.HLevel.{×_discrete}
use mathlib.Core.Logic.{◌⊎◌, inl, inr, ◌↔◌, ⊎_elim}
use mathlib.Core.Bool.{Bool, true, false, ◌&&◌, ◌||◌, true≢false, or-true}
use mathlib.Core.List.Memᴰ
use mathlib.Core.List.Memᴰ.{append_cases}
use mathlib.Core.List.Memᴰ.{cases_cons as mem-cases}
use mathlib.Core.List.Memᴰ.{eq_of_singleton}
use mathlib.Core.List.Memᴰ.{head as here}
use mathlib.Core.List.Memᴰ.{not-nil}
use mathlib.Core.List.Memᴰ.{tail as there}
use mathlib.Core.List.Pairwise
use mathlib.Core.List.{
  List,
  [],
  ◌∷◌,
  ◌++◌,
  Memᴰ as Mem,
  Nodup,
}
use Prim.Native.Nat.{ℕ, ◌+◌, ◌≤◌}
use native.Mathlib.Decide.{ℕ_discrete}
use native.Mathlib.Omega.{arith}
use lib.Dec.{eqb}
use lib.ListN.{length}
use borrow.Author.Tests.{eqb-true, eq-eqb}
use Rattle.order.specs.Order.{All}
use Rattle.order.proofs.Lists.{nodup_cons, nodup_le}
use Rattle.paths.specs.Graph.{Graph, Link, SameLinks}
use Rattle.paths.specs.Links.{linked, distinct, link_count}

-- what a test that is made of two tests says of them
pub either : (x y : Bool) → x || y ≡ true → (x ≡ true) ⊎ (y ≡ true)
either true y e = inl refl
either false y e = inr e

pub both : (x y : Bool) → x && y ≡ true → (x ≡ true) × (y ≡ true)
both true y e = (refl, e)
both false y e = absurd (true≢false (sym e))

-- `linked` tests whether the link is a member
pub linked_mem : (a b : ℕ) (ls : List (ℕ × ℕ)) → linked a b ls ≡ true → Mem {A = ℕ × ℕ} (a, b) ls
unfolding linked
linked_mem a b [] e = absurd (true≢false (sym e))
linked_mem a b (l ∷ ls) e =
    ⊎_elim
    (λ f.
    let p = both (eqb a l.0) (eqb b l.1) f in
    here (ap₂ (λ (x y : ℕ). (x, y)) (eqb-true a l.0 p.0) (eqb-true b l.1 p.1)))
    (λ f. there (linked_mem a b ls f))
    (either (eqb a l.0 && eqb b l.1) (linked a b ls) e)

pub mem_linked : (a b : ℕ) (ls : List (ℕ × ℕ)) → Mem {A = ℕ × ℕ} (a, b) ls → linked a b ls ≡ true
unfolding linked
mem_linked a b [] m = absurd (not-nil m)
mem_linked a b (l ∷ ls) m =
    ⊎_elim
    (λ e.
    let from : a ≡ l.0 = ap (λ (v : ℕ × ℕ). v.0) e in
    let to : b ≡ l.1 = ap (λ (v : ℕ × ℕ). v.1) e in
    rw (eq-eqb a l.0 from, eq-eqb b l.1 to))
    (λ n. rw (mem_linked a b ls n, or-true))
    (mem-cases m)

-- the different links are the links
pub distinct_mem : {l : ℕ × ℕ} (ls : List (ℕ × ℕ)) → Mem l (distinct ls) → Mem l ls
unfolding distinct
distinct_mem [] m = m
distinct_mem {l} (k ∷ ls) m = go (linked k.0 k.1 ls) (distinct_mem ls) m
  where
    go : (t : Bool) → (Mem l (distinct ls) → Mem l ls) → Mem l (elim t [ true ↦ distinct ls | false ↦ k ∷ distinct ls ]) → Mem l (k ∷ ls)
    go true rest n = there (rest n)
    go false rest n = ⊎_elim (λ e. here e) (λ o. there (rest o)) (mem-cases n)

pub mem_distinct : {l : ℕ × ℕ} (ls : List (ℕ × ℕ)) → Mem l ls → Mem l (distinct ls)
unfolding distinct
mem_distinct [] m = m
mem_distinct {l} (k ∷ ls) m = go (linked k.0 k.1 ls) refl (mem_distinct ls) (mem-cases m)
  where
    go : (t : Bool) → linked k.0 k.1 ls ≡ t → (Mem l ls → Mem l (distinct ls)) → (l ≡ k) ⊎ Mem l ls
        → Mem l (elim t [ true ↦ distinct ls | false ↦ k ∷ distinct ls ])
    go true again rest (inl e) = rest (Memᴰ.cast e (linked_mem k.0 k.1 ls again))
    go true again rest (inr n) = rest n
    go false again rest (inl e) = here e
    go false again rest (inr n) = there (rest n)

-- none twice
pub distinct_nodup : (ls : List (ℕ × ℕ)) → Nodup (distinct ls)
unfolding distinct
distinct_nodup [] = Pairwise.nil
distinct_nodup (k ∷ ls) = go (linked k.0 k.1 ls) refl (distinct_nodup ls)
  where
    go : (t : Bool) → linked k.0 k.1 ls ≡ t → Nodup (distinct ls)
        → Nodup {A = ℕ × ℕ} (elim t [ true ↦ distinct ls | false ↦ k ∷ distinct ls ])
    go true again rest = rest
    go false again rest = nodup_cons (λ m. true≢false (sym (mem_linked k.0 k.1 ls (distinct_mem ls m)) ∙ again)) rest

-- a list without repeats whose members are all in another is no longer than that
fewer : (ks ls : List (ℕ × ℕ)) → Nodup ks → All (λ l. Mem l ls) ks → length ks ≤ length ls
fewer = nodup_le (×_discrete ℕ_discrete ℕ_discrete)

-- so it has at most as many as the other has different ones
module _ (ks ls : List (ℕ × ℕ)) (once : Nodup ks) where
  pub listed_few : All (λ l. Mem l ls) ks → length ks ≤ length (distinct ls)
  listed_few h = fewer ks (distinct ls) once (λ l m. mem_distinct ls (h l m))

  -- and just as many where the two have the same members
  pub listed_all : All (λ l. Mem l ls) ks → All (λ l. Mem l ks) ls → length ks ≡ length (distinct ls)
  listed_all h k =
      let most = listed_few h in
      let least = fewer (distinct ls) ks (distinct_nodup ls) (λ l m. k l (distinct_mem ls m)) in
      omega arith

-- ---- one link more: it is among the others, or it counts

module _ (ls : List (ℕ × ℕ)) (a b : ℕ) where
  cases : (l : ℕ × ℕ) → Mem l (ls ++ (a, b) ∷ []) → Mem l ls ⊎ (l ≡ (a, b))
  cases l m = ⊎_elim inl (λ n. inr (eq_of_singleton n)) (append_cases ls m)

  pub distinct_again : Mem {A = ℕ × ℕ} (a, b) ls → length (distinct (ls ++ (a, b) ∷ [])) ≡ length (distinct ls)
  distinct_again m =
      sym (listed_all (distinct ls) (ls ++ (a, b) ∷ []) (distinct_nodup ls)
      (λ l n. Memᴰ.append_left ((a, b) ∷ []) (distinct_mem ls n))
      (λ l n. ⊎_elim (mem_distinct ls) (λ e. mem_distinct ls (Memᴰ.cast e m)) (cases l n)))

  pub distinct_new : (Mem {A = ℕ × ℕ} (a, b) ls → ⊥) → length (distinct (ls ++ (a, b) ∷ [])) ≡ length (distinct ls) + 1
  distinct_new new =
      let all =
      listed_all ((a, b) ∷ distinct ls) (ls ++ (a, b) ∷ []) (nodup_cons (λ m. new (distinct_mem ls m)) (distinct_nodup ls))
      (λ l n. ⊎_elim (λ e. Memᴰ.append_right ls (here e)) (λ o. Memᴰ.append_left ((a, b) ∷ []) (distinct_mem ls o)) (mem-cases n))
      (λ l n. ⊎_elim (λ o. there (mem_distinct ls o)) here (cases l n)) in
      omega arith

-- ---- of graphs

-- the link count is the length of every list without repeats that has exactly the graph's links
pub count_listed : (g : Graph) (ls : List (ℕ × ℕ)) → Nodup ls → ((a b : ℕ) → Mem {A = ℕ × ℕ} (a, b) ls ↔ Link g a b)
    → length ls ≡ link_count g
count_listed g ls once same = listed_all ls g.links once (λ l. (same l.0 l.1).0) (λ l. (same l.0 l.1).1)

pub count_list : (g : Graph)
    → (ls : List (ℕ × ℕ)) × Nodup ls × ((a b : ℕ) → Mem {A = ℕ × ℕ} (a, b) ls ↔ Link g a b) × (length ls ≡ link_count g)
count_list g = (distinct g.links, distinct_nodup g.links, λ a b. (distinct_mem g.links, mem_distinct g.links), refl)

-- it is at most the number of links with their repeats
pub count_few : (g : Graph) → link_count g ≤ length g.links
count_few g = fewer (distinct g.links) g.links (distinct_nodup g.links) (λ l. distinct_mem g.links)

-- and as much exactly when none is repeated
distinct_once : (ls : List (ℕ × ℕ)) → length (distinct ls) ≡ length ls → Nodup ls
unfolding distinct
distinct_once [] e = Pairwise.nil
distinct_once (k ∷ ls) e = go (linked k.0 k.1 ls) refl (distinct_once ls) e
  where
    few : length (distinct ls) ≤ length ls
    few = fewer (distinct ls) ls (distinct_nodup ls) (λ l. distinct_mem ls)

    go : (t : Bool) → linked k.0 k.1 ls ≡ t → (length (distinct ls) ≡ length ls → Nodup ls)
        → length {A = ℕ × ℕ} (elim t [ true ↦ distinct ls | false ↦ k ∷ distinct ls ]) ≡ length (k ∷ ls) → Nodup (k ∷ ls)
    go true again rest f = absurd (omega (arith, few, f))
    go false again rest f = nodup_cons (λ m. true≢false (sym (mem_linked k.0 k.1 ls m) ∙ again)) (rest (omega (arith, f)))

pub count_once : (g : Graph) → (link_count g ≡ length g.links) ↔ Nodup g.links
count_once g = (distinct_once g.links, λ once. sym (count_listed g g.links once (λ a b. (λ m. m, λ m. m))))

-- a graph that has each link of another has at least as many
pub count_more : (g h : Graph) → ((a b : ℕ) → Link g a b → Link h a b) → link_count g ≤ link_count h
count_more g h link =
    listed_few (distinct g.links) h.links (distinct_nodup g.links) (λ l m. link l.0 l.1 (distinct_mem g.links m))

pub count_same : {g h : Graph} → SameLinks g h → link_count g ≡ link_count h
count_same {g} {h} same =
    let most = count_more g h (λ a b. (same.links a b).0) in
    let least = count_more h g (λ a b. (same.links a b).1) in
    omega arith
