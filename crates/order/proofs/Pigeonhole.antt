-- Weak duality: an antichain on some chains has at most as many members as there are chains, since each chain holds at most one; and
-- where the numbers are equal, each chain holds exactly one.
use mathlib.Core.Path.{◌≡◌, refl, subst}
use mathlib.Core.Logic.{◌⊎◌, inl, inr, ⊎_elim}
use mathlib.Core.List.Memᴰ.{cases_cons as mem-cases}
use mathlib.Core.List.Memᴰ.{head as here}
use mathlib.Core.List.Memᴰ.{not-nil}
use mathlib.Core.List.Memᴰ.{tail as there}
use mathlib.Core.List.{
  List,
  [],
  ◌∷◌,
  Memᴰ as Mem,
}
use Prim.Native.Nat.{suc, ◌≤◌, ◌<◌, zero-le}
use native.Mathlib.Omega.{arith}
use lib.ListN.{length}
use Rattle.order.specs.Order.{All, On, Transitive, Chain, Antichain, HoldsOne}
use Rattle.order.proofs.Lists.{find, dec_mem, without, without_mem, length_without_one, others, others_mem, length_others, on_others}
use Rattle.order.proofs.Chains.{antichain_without, on_one_chain}

module _ {A : Type 0} {R : A → A → Type 0} (dec : Discrete A) (trans : Transitive R) where
  -- at most as many members as chains
  pub antichain_le_chains : (cs : List (List A)) (s : List A) → All (Chain R) cs → Antichain R s → All (On cs) s → length s ≤ length cs
  antichain_le_chains [] [] chains anti on = zero-le
  antichain_le_chains [] (a ∷ s) chains anti on = absurd (not-nil (on a (here refl)).1)
  antichain_le_chains (c ∷ cs) s chains anti on =
      let less : length s ≤ suc (length (without dec c s)) =
      length_without_one dec c s anti.once
      (λ x y xs ys xc yc. on_one_chain trans dec (chains c (here refl)) anti xs ys xc yc) in
      let rest : length (without dec c s) ≤ length cs =
      antichain_le_chains cs (without dec c s) (λ l m. chains l (there m)) (antichain_without dec c s anti) on_rest in
      omega arith
    where
      other : (x : A) → (Mem x c → ⊥) → On (c ∷ cs) x → On cs x
      other x nc o = ⊎_elim (λ e. absurd (nc (subst (λ (l : List A). Mem x l) e o.2))) (λ m. (o.0, m, o.2)) (mem-cases o.1)

      on_rest : All (On cs) (without dec c s)
      on_rest x m = let h = without_mem dec c s m in other x h.1 (on x h.0)

  -- where chains and members are as many, each chain holds exactly one member: without a chain that holds none, there were too few
  pub chain_holds_one : (cs : List (List A)) (s : List A) → All (Chain R) cs → Antichain R s → All (On cs) s → length s ≡ length cs
      → All (HoldsOne s) cs
  chain_holds_one cs s chains anti on same c m = go (find (λ x. dec_mem dec x c) s)
    where
      go : ((x : A) × Mem x s × Mem x c) ⊎ All (λ x. Mem x c → ⊥) s → HoldsOne s c
      go (inl t) = (t.0, t.1, t.2, λ y ys yc. on_one_chain trans dec (chains c m) anti ys t.1 yc t.2)
      go (inr h) =
          let short : length (others dec c cs) < length cs = length_others dec c cs m in
          let enough : length s ≤ length (others dec c cs) =
          antichain_le_chains (others dec c cs) s (λ l q. chains l (others_mem dec c cs q).0) anti
          (λ x xs. on_others dec c cs (h x xs) (on x xs)) in
          let none : ⊥ = omega arith in
          absurd none
