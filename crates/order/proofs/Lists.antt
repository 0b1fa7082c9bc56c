-- Lists: what is in one, no element twice, the members that pass a test, and with a decidable membership those that another list does not have.
use mathlib.Core.Path.{◌≡◌, refl, sym, ap, subst}
use mathlib.Core.Logic.Dec
use mathlib.Core.Logic.{◌≢◌, ◌⊎◌, inl, inr, ⊎_elim, ite}
use mathlib.Core.HLevel.{⊥_prop}
use mathlib.Core.List.Memᴰ
use mathlib.Core.List.Memᴰ.{append_cases}
use mathlib.Core.List.Memᴰ.{cases_cons as mem-cases}
use mathlib.Core.List.Memᴰ.{eq_of_singleton}
use mathlib.Core.List.Memᴰ.{head as here}
use mathlib.Core.List.Memᴰ.{not-nil}
use mathlib.Core.List.Memᴰ.{tail as there}
use mathlib.Core.List.Nodup
use mathlib.Core.List.Pairwise
use mathlib.Core.List.{
  List,
  [],
  ◌∷◌,
  ◌++◌,
  Memᴰ as Mem,
  List-discrete,
  Nodup,
  IsChain,
  Sublistᴰ,
  filter,
  filter-Sublistᴰ,
  filter-sublist,
}
use Prim.Native.Nat.{ℕ, zero, suc, ◌≤◌, ◌<◌, zero-le}
use native.Mathlib.Omega.{arith}
use lib.ListN.{length, get_or, replicate}
use Rattle.order.specs.Order.{All, On}

module _ {A : Type 0} where
  pub all_nil : (P : A → Type 0) → All P []
  all_nil P x m = absurd (not-nil m)

  pub all_cons : {P : A → Type 0} {a : A} {l : List A} → P a → All P l → All P (a ∷ l)
  all_cons {P} p h x m = ⊎_elim (λ e. subst P (sym e) p) (h x) (mem-cases m)

  -- what is on one of the lists is on one of more lists
  pub on_there : {x : A} {l : List A} {ls : List (List A)} → On ls x → On (l ∷ ls) x
  on_there (k, m, n) = (k, there m, n)

  -- a list that starts with `a` has no element twice if the rest has none and does not hold `a`
  pub nodup_cons : {a : A} {l : List A} → (Mem a l → ⊥) → Nodup l → Nodup (a ∷ l)
  nodup_cons h p = Pairwise.cons (λ b m e. ∥∥₁_rec ⊥_prop (λ d. h (Memᴰ.cast e d)) m) p

  pub nodup_head : {a : A} {l : List A} → Nodup (a ∷ l) → Mem a l → ⊥
  nodup_head {a} (Pairwise.cons h p) m = h a ∣ m ∣₁ refl

  pub nodup_tail : {a : A} {l : List A} → Nodup (a ∷ l) → Nodup l
  nodup_tail (Pairwise.cons h p) = p

  pub nodup_append : (l m : List A) → Nodup l → Nodup m → All (λ x. Mem x m → ⊥) l → Nodup (l ++ m)
  nodup_append [] m p q h = q
  nodup_append (a ∷ l) m p q h =
      nodup_cons (λ n. ⊎_elim (nodup_head p) (h a (here refl)) (append_cases l n))
      (nodup_append l m (nodup_tail p) q (λ x n. h x (there n)))

  -- what stands before a member and behind it
  pub around : {x : A} (l : List A) → Mem x l → (p : List A) × (q : List A) × (l ≡ p ++ x ∷ q)
  around [] m = absurd (not-nil m)
  around (y ∷ l) m =
      ⊎_elim (λ e. ([], l, ap (λ (z : A). z ∷ l) (sym e)))
      (λ n. let r = around l n in (y ∷ r.0, r.1, ap (λ (k : List A). y ∷ k) r.2))
      (mem-cases m)

  -- what is read below the length is a member
  pub get_d_mem : (l : List A) (i : ℕ) (d : A) → i < length l → Mem (get_or l i d) l
  get_d_mem [] i d h = let none : ⊥ = omega arith in absurd none
  get_d_mem (y ∷ l) zero d h = here refl
  get_d_mem (y ∷ l) (suc i) d h = there (get_d_mem l i d (omega arith))

  pub replicate_mem : {x a : A} (n : ℕ) → Mem x (replicate n a) → (x ≡ a) × (1 ≤ n)
  replicate_mem zero m = absurd (not-nil m)
  replicate_mem (suc n) m = ⊎_elim (λ e. (e, omega arith)) (λ k. ((replicate_mem n k).0, omega arith)) (mem-cases m)

-- two chains behind each other, where each member of the first is so related to each of the second
pub chain_append : {A : Type 0} {R : A → A → Type 0} {xs ys : List A} → IsChain R xs → IsChain R ys
    → ((x y : A) → Mem x xs → Mem y ys → R x y) → IsChain R (xs ++ ys)
chain_append IsChain.nil d h = d
chain_append {ys = []} (IsChain.singleton a) d h = IsChain.singleton a
chain_append {ys = y ∷ ys} (IsChain.singleton a) d h = IsChain.cons-cons (h a y (here refl) (here refl)) d
chain_append (IsChain.cons-cons r c) d h = IsChain.cons-cons r (chain_append c d (λ x y i j. h x y (there i) j))

-- a member that has the property, or none has it
pub find : {A : Type 0} {P : A → Type 0} → ((x : A) → Dec (P x)) → (l : List A) → ((x : A) × Mem x l × P x) ⊎ All (λ x. P x → ⊥) l
find test [] = inr (all_nil _)
find {A} {P} test (a ∷ l) = go (test a) (find test l)
  where
    go : Dec (P a) → ((x : A) × Mem x l × P x) ⊎ All (λ x. P x → ⊥) l
        → ((x : A) × Mem x (a ∷ l) × P x) ⊎ All (λ x. P x → ⊥) (a ∷ l)
    go (yes p) o = inl (a, here refl, p)
    go (no np) (inl t) = inl (t.0, there t.1, t.2)
    go (no np) (inr h) = inr (all_cons np h)

-- the members that have the property, which `test` decides: the library's `filter`, by positions
module _ {A : Type 0} {P : A → Type 0} (test : (x : A) → Dec (P x)) where
  pub filter_sound : {x : A} (l : List A) → Mem x (filter test l) → Mem x l × P x
  filter_sound [] m = absurd (not-nil m)
  filter_sound {x} (y ∷ l) m = go (λ r. filter_sound l r) (test y) m
    where
      go : (Mem x (filter test l) → Mem x l × P x) → (d : Dec (P y)) → Mem x (ite {C = List A} d (y ∷ filter test l) (filter test l))
          → Mem x (y ∷ l) × P x
      go rest (no np) r = (there (rest r).0, (rest r).1)
      go rest (yes p) r = ⊎_elim (λ e. (here e, subst P (sym e) p)) (λ q. (there (rest q).0, (rest q).1)) (mem-cases r)

  pub filter_complete : {x : A} (l : List A) → Mem x l → P x → Mem x (filter test l)
  filter_complete [] m p = absurd (not-nil m)
  filter_complete {x} (y ∷ l) m p = go (λ r. filter_complete l r p) (test y) (mem-cases m)
    where
      go : (Mem x l → Mem x (filter test l)) → (d : Dec (P y)) → (x ≡ y) ⊎ Mem x l
          → Mem x (ite {C = List A} d (y ∷ filter test l) (filter test l))
      go rest (yes q) (inl e) = here e
      go rest (yes q) (inr r) = there (rest r)
      go rest (no nq) (inl e) = absurd (nq (subst P e p))
      go rest (no nq) (inr r) = rest r

  pub filter_nodup : (l : List A) → Nodup l → Nodup (filter test l)
  filter_nodup l = Nodup.sublist (filter-sublist test {l = l})

  pub filter_length : (l : List A) → length (filter test l) ≤ length l
  filter_length [] = zero-le
  filter_length (y ∷ l) = go (test y) (filter_length l)
    where
      go : (d : Dec (P y)) → length (filter test l) ≤ length l → length (ite {C = List A} d (y ∷ filter test l) (filter test l)) ≤ suc (length l)
      go (yes q) r = omega arith
      go (no nq) r = omega arith

  -- where a member has it not, fewer are left
  pub filter_fewer : {x : A} (l : List A) → Mem x l → (P x → ⊥) → length (filter test l) < length l
  filter_fewer [] m np = absurd (not-nil m)
  filter_fewer {x} (y ∷ l) m np = go (filter_length l) (λ r. filter_fewer l r np) (test y) (mem-cases m)
    where
      go : length (filter test l) ≤ length l → (Mem x l → length (filter test l) < length l) → (d : Dec (P y)) → (x ≡ y) ⊎ Mem x l
          → length (ite {C = List A} d (y ∷ filter test l) (filter test l)) < suc (length l)
      go le rest (no nq) c = omega arith
      go le rest (yes q) (inl e) = absurd (np (subst P (sym e) q))
      go le rest (yes q) (inr r) = let h = rest r in omega arith

  -- where each has it, all are left
  pub filter_all : (l : List A) → All P l → filter test l ≡ l
  filter_all [] h = refl
  filter_all (y ∷ l) h = go (test y) (filter_all l (λ x m. h x (there m)))
    where
      go : (d : Dec (P y)) → filter test l ≡ l → ite {C = List A} d (y ∷ filter test l) (filter test l) ≡ y ∷ l
      go (yes q) e = ap (λ (k : List A). y ∷ k) e
      go (no nq) e = absurd (nq (h y (here refl)))

module _ {A : Type 0} (dec : Discrete A) where
  -- whether `x` is a member of `l`
  pub dec_mem : (x : A) (l : List A) → Dec (Mem x l)
  dec_mem x [] = no not-nil
  dec_mem x (y ∷ l) = go (dec x y) (dec_mem x l)
    where
      go : Dec (x ≡ y) → Dec (Mem x l) → Dec (Mem x (y ∷ l))
      go (yes e) d = yes (here e)
      go (no ne) (yes m) = yes (there m)
      go (no ne) (no nm) = no (λ m. ⊎_elim ne nm (mem-cases m))

module _ {A : Type 0} (dec : Discrete A) where
  -- the members of `X` that are not in `D`
  pub without : List A → List A → List A
  without D X = filter (λ x. Dec.not (dec_mem dec x D)) X

  pub mem_without : {x : A} (D X : List A) → Mem x X → (Mem x D → ⊥) → Mem x (without D X)
  unfolding without
  mem_without D X = filter_complete (λ x. Dec.not (dec_mem dec x D)) X

  pub without_mem : {x : A} (D X : List A) → Mem x (without D X) → Mem x X × (Mem x D → ⊥)
  unfolding without
  without_mem D X = filter_sound (λ x. Dec.not (dec_mem dec x D)) X

  pub without_sublist : (D X : List A) → Sublistᴰ (without D X) X
  unfolding without
  without_sublist D X = filter-Sublistᴰ (λ x. Dec.not (dec_mem dec x D)) X

  pub without_nodup : (D X : List A) → Nodup X → Nodup (without D X)
  unfolding without
  without_nodup D X = filter_nodup (λ x. Dec.not (dec_mem dec x D)) X

  pub length_without : (D X : List A) → length (without D X) ≤ length X
  unfolding without
  length_without D X = filter_length (λ x. Dec.not (dec_mem dec x D)) X

  -- what takes out a member leaves fewer
  pub length_without_lt : {x : A} (D X : List A) → Mem x X → Mem x D → length (without D X) < length X
  unfolding without
  length_without_lt D X m xd = filter_fewer (λ x. Dec.not (dec_mem dec x D)) X m (λ nd. nd xd)

  -- where nothing is to be taken out, all stays
  pub without_none : (D X : List A) → All (λ x. Mem x D → ⊥) X → without D X ≡ X
  unfolding without
  without_none D X = filter_all (λ x. Dec.not (dec_mem dec x D)) X

  -- what takes out at most one member leaves at most one fewer
  pub length_without_one : (D X : List A) → Nodup X → ((x y : A) → Mem x X → Mem y X → Mem x D → Mem y D → x ≡ y)
      → length X ≤ suc (length (without D X))
  unfolding without Dec.not
  length_without_one D [] p h = zero-le
  length_without_one D (y ∷ X) p h =
      go (dec_mem dec y D) (length_without_one D X (nodup_tail p) (λ a b m n. h a b (there m) (there n)))
    where
      go : (d : Dec (Mem y D)) → length X ≤ suc (length (without D X))
          → suc (length X) ≤ suc (length (ite {C = List A} (Dec.not d) (y ∷ without D X) (without D X)))
      go (no ny) rest = omega arith
      go (yes yd) rest =
          let others : All (λ x. Mem x D → ⊥) X = λ x m xd. nodup_head p (Memᴰ.cast (h y x (here refl) (there m) yd xd) m) in
          let e : length (without D X) ≡ length X = ap length (without_none D X others) in
          omega arith

  -- different members of `X` are at most as many as `X` has
  pub nodup_le : (l X : List A) → Nodup l → All (λ x. Mem x X) l → length l ≤ length X
  nodup_le [] X p h = zero-le
  nodup_le (a ∷ l) X p h =
      let less : length (without (a ∷ []) X) < length X = length_without_lt (a ∷ []) X (h a (here refl)) (here refl) in
      let rest : length l ≤ length (without (a ∷ []) X) =
      nodup_le l (without (a ∷ []) X) (nodup_tail p)
      (λ x m. mem_without (a ∷ []) X (h x (there m)) (λ q. nodup_head p (Memᴰ.cast (sym (eq_of_singleton q)) m))) in
      omega arith

-- the lists of `cs` other than `c`
module _ {A : Type 0} (dec : Discrete A) (c : List A) (cs : List (List A)) where
  pub others : List (List A)
  others = without (List-discrete dec) (c ∷ []) cs

  pub others_mem : {l : List A} → Mem l others → Mem l cs × (l ≢ c)
  unfolding others
  others_mem m = let h = without_mem (List-discrete dec) (c ∷ []) cs m in (h.0, λ e. h.1 (here e))

  pub others_sublist : Sublistᴰ others cs
  unfolding others
  others_sublist = without_sublist (List-discrete dec) (c ∷ []) cs

  pub length_others : Mem c cs → length others < length cs
  unfolding others
  length_others m = length_without_lt (List-discrete dec) (c ∷ []) cs m (here refl)

  -- what is on one of the lists and not in `c` is on one of the others
  pub on_others : {x : A} → (Mem x c → ⊥) → On cs x → On others x
  unfolding others
  on_others {x} nc (l, m, n) =
      (l, mem_without (List-discrete dec) (c ∷ []) cs m (λ q. nc (subst (λ (k : List A). Mem x k) (eq_of_singleton q) n)), n)
