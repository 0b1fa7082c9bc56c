-- The numbers below n as a list, so that different numbers below n are at most n; and rising lists with the same members are equal.
use mathlib.Core.Path.{◌≡◌, refl, sym, ap, ap₂}
use mathlib.Core.Logic.{◌⊎◌, inl, inr}
use mathlib.Core.List.Memᴰ.{cases_cons as mem-cases}
use mathlib.Core.List.Memᴰ.{head as here}
use mathlib.Core.List.Memᴰ.{not-nil}
use mathlib.Core.List.Memᴰ.{tail as there}
use mathlib.Core.List.IsChain
use mathlib.Core.List.Pairwise
use mathlib.Core.List.{
  List,
  [],
  ◌∷◌,
  ◌++◌,
  Memᴰ as Mem,
  Nodup,
}
use Prim.Native.Nat.{ℕ, zero, suc, ◌≤◌, ◌<◌}
use native.Mathlib.Decide.{ℕ_discrete}
use native.Mathlib.Omega.{arith}
use lib.ListN.{length}
use Rattle.order.specs.Order.{All}
use Rattle.order.proofs.Lists.{all_nil, all_cons, nodup_cons, nodup_le}
use Rattle.paths.specs.Graph.{Rising}

-- the numbers below `n`, the largest first
unfoldable pub below : ℕ → List ℕ
below zero = []
below (suc n) = n ∷ below n

pub below_lt : (n : ℕ) → All (λ v. v < n) (below n)
unfolding below
below_lt zero = all_nil _
below_lt (suc n) = all_cons (omega arith) (λ v m. let h = below_lt n v m in omega arith)

pub lt_below : {v : ℕ} (n : ℕ) → v < n → Mem v (below n)
unfolding below
lt_below zero h = let none : ⊥ = omega arith in absurd none
lt_below {v} (suc n) h = go (lt_below n) (ℕ_discrete v n)
  where
    go : (v < n → Mem v (below n)) → Dec (v ≡ n) → Mem v (n ∷ below n)
    go rest (yes e) = here e
    go rest (no ne) = there (rest (omega arith))

pub below_nodup : (n : ℕ) → Nodup (below n)
unfolding below
below_nodup zero = Pairwise.nil
below_nodup (suc n) = nodup_cons (λ m. let h = below_lt n n m in omega arith) (below_nodup n)

pub length_below : (n : ℕ) → length (below n) ≡ n
unfolding below
length_below zero = refl
length_below (suc n) = ap suc (length_below n)

-- different numbers below `n` are at most `n`
pub nodup_below : (n : ℕ) (l : List ℕ) → Nodup l → All (λ v. v < n) l → length l ≤ n
nodup_below n l p h =
    let le : length l ≤ length (below n) = nodup_le ℕ_discrete l (below n) p (λ v m. lt_below n (h v m)) in
    let e : length (below n) ≡ n = length_below n in
    omega arith

-- the first of a rising list is below the others
pub rising_first : {a x : ℕ} {s : List ℕ} → Rising (a ∷ s) → Mem x s → a < x
rising_first (IsChain.singleton _) m = absurd (not-nil m)
rising_first {a} {x} (IsChain.cons-cons {b = b} {l = l} h r) m = go (rising_first r) (mem-cases m)
  where
    go : (Mem x l → b < x) → (x ≡ b) ⊎ Mem x l → a < x
    go rest (inl e) = omega arith
    go rest (inr n) = let k = rest n in omega arith

rising_tail : {a : ℕ} {s : List ℕ} → Rising (a ∷ s) → Rising s
rising_tail (IsChain.singleton _) = IsChain.nil
rising_tail (IsChain.cons-cons h r) = r

-- a rising list and a larger number behind it
pub rising_snoc : {l : List ℕ} {k : ℕ} → Rising l → All (λ v. v < k) l → Rising (l ++ (k ∷ []))
rising_snoc {k = k} IsChain.nil h = IsChain.singleton k
rising_snoc {k = k} (IsChain.singleton a) h = IsChain.cons-cons (h a (here refl)) (IsChain.singleton k)
rising_snoc (IsChain.cons-cons r c) h = IsChain.cons-cons r (rising_snoc c (λ v m. h v (there m)))

-- the members of a rising list are all different
pub rising_nodup : {l : List ℕ} → Rising l → Nodup l
rising_nodup IsChain.nil = Pairwise.nil
rising_nodup (IsChain.singleton a) = nodup_cons not-nil Pairwise.nil
rising_nodup (IsChain.cons-cons {a = a} {b = b} {l = l} r c) =
    nodup_cons (λ m. let h : a < a = rising_first (IsChain.cons-cons r c) m in omega arith) (rising_nodup c)

-- rising lists with the same members are equal
pub rising_equal : (s r : List ℕ) → Rising s → Rising r → All (λ v. Mem v r) s → All (λ v. Mem v s) r → s ≡ r
rising_equal [] [] rs rr h k = refl
rising_equal [] (b ∷ r) rs rr h k = absurd (not-nil (k b (here refl)))
rising_equal (a ∷ s) [] rs rr h k = absurd (not-nil (h a (here refl)))
rising_equal (a ∷ s) (b ∷ r) rs rr h k =
    ap₂ (λ (x : ℕ) (l : List ℕ). x ∷ l) first
    (rising_equal s r (rising_tail rs) (rising_tail rr)
    (λ v m. kept first (rising_first rs m) (h v (there m)))
    (λ v m. kept (sym first) (rising_first rr m) (k v (there m))))
  where
    first : a ≡ b
    first = go (mem-cases (h a (here refl))) (mem-cases (k b (here refl)))
      where
        go : (a ≡ b) ⊎ Mem a r → (b ≡ a) ⊎ Mem b s → a ≡ b
        go (inl e) o = e
        go (inr m) (inl e) = sym e
        go (inr m) (inr n) =
            let x : b < a = rising_first rr m in
            let y : a < b = rising_first rs n in
            omega arith

    kept : {x y v : ℕ} {l : List ℕ} → x ≡ y → x < v → Mem v (y ∷ l) → Mem v l
    kept {x} {y} {v} {l} e lt o = go (mem-cases o)
      where
        go : (v ≡ y) ⊎ Mem v l → Mem v l
        go (inl f) = let none : ⊥ = omega arith in absurd none
        go (inr n) = n
