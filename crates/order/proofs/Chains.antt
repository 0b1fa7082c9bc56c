-- Parts of chains and of antichains; any two members of a chain can be compared.
use mathlib.Core.Path.{◌≡◌, sym, ◌∙◌, subst}
use mathlib.Core.Logic.{◌⊎◌, inl, inr}
use mathlib.Core.List.Memᴰ.{cases_cons as mem-cases}
use mathlib.Core.List.Memᴰ.{eq_of_singleton}
use mathlib.Core.List.Memᴰ.{not-nil}
use mathlib.Core.List.Pairwise
use mathlib.Core.List.{
  List,
  [],
  ◌∷◌,
  Memᴰ as Mem,
  Nodup,
}
use Rattle.order.specs.Order.{All, Transitive, StrictOrder, Chain, single, more, Antichain}
use Rattle.order.proofs.Lists.{all_nil, all_cons, nodup_cons, without, without_mem, without_sublist}

module _ {A : Type 0} {R : A → A → Type 0} where
  pub not_empty : Chain R [] → ⊥
  not_empty = elim [ ]

  pub chain_tail : {a b : A} {l : List A} → Chain R (a ∷ b ∷ l) → Chain R (b ∷ l)
  chain_tail (more r c) = c

  -- a chain of one relation is a chain of any that follows from it
  pub chain_map : {S : A → A → Type 0} → ((a b : A) → R a b → S a b) → {l : List A} → Chain R l → Chain S l
  chain_map f single = single
  chain_map f (more {a = a} {b = b} r c) = more (f a b r) (chain_map f c)

  pub antichain_without : (dec : Discrete A) (D s : List A) → Antichain R s → Antichain R (without dec D s)
  antichain_without dec D s h =
      record {
        once = Pairwise.sublistᴰ (without_sublist dec D s) h.once;
        apart = λ m n. h.apart (without_mem dec D s m).0 (without_mem dec D s n).0;
      }

module _ {A : Type 0} {R : A → A → Type 0} (trans : Transitive R) where
  -- the first of a chain is before each of the others
  pub chain_first : {a : A} {l : List A} → Chain R (a ∷ l) → All (R a) l
  chain_first single = all_nil _
  chain_first {a} (more {b = b} r c) = all_cons r (λ x m. trans a b x r (chain_first c x m))

  pub chain_compare : {x y : A} {l : List A} → Chain R l → Mem x l → Mem y l → (x ≡ y) ⊎ (R x y ⊎ R y x)
  chain_compare {x} {y} (single {a = a}) m n = inl (eq_of_singleton m ∙ sym (eq_of_singleton n))
  chain_compare {x} {y} (more {a = a} {b = b} {l = l} r c) m n = go (chain_compare c) (mem-cases m) (mem-cases n)
    where
      first : All (R a) (b ∷ l)
      first = chain_first (more r c)

      go : (Mem x (b ∷ l) → Mem y (b ∷ l) → (x ≡ y) ⊎ (R x y ⊎ R y x)) → (x ≡ a) ⊎ Mem x (b ∷ l) → (y ≡ a) ⊎ Mem y (b ∷ l)
          → (x ≡ y) ⊎ (R x y ⊎ R y x)
      go rest (inl e) (inl f) = inl (e ∙ sym f)
      go rest (inl e) (inr q) = inr (inl (subst (λ (z : A). R z y) (sym e) (first y q)))
      go rest (inr p) (inl f) = inr (inr (subst (λ (z : A). R z x) (sym f) (first x p)))
      go rest (inr p) (inr q) = rest p q

  -- two members of an antichain that are on one chain are the same
  pub on_one_chain : {c s : List A} {x y : A} → Discrete A → Chain R c → Antichain R s → Mem x s → Mem y s → Mem x c → Mem y c → x ≡ y
  on_one_chain {x} {y} dec chain anti xs ys xc yc = go (dec x y) (chain_compare chain xc yc)
    where
      go : Dec (x ≡ y) → (x ≡ y) ⊎ (R x y ⊎ R y x) → x ≡ y
      go (yes e) o = e
      go (no ne) (inl e) = e
      go (no ne) (inr (inl r)) = absurd (anti.apart xs ys ne r)
      go (no ne) (inr (inr r)) = absurd (anti.apart ys xs (λ e. ne (sym e)) r)

-- the elements of a chain of a strict order are all different
pub chain_nodup : {A : Type 0} {R : A → A → Type 0} {l : List A} → StrictOrder R → Chain R l → Nodup l
chain_nodup order single = nodup_cons not-nil Pairwise.nil
chain_nodup order (more {a = a} r c) =
    nodup_cons (λ m. order.irreflexive a (chain_first order.transitive (more r c) a m)) (chain_nodup order c)
