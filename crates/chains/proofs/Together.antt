-- Items of one owner: an exhausted search over the items of an acyclic graph sees them together, and they are members of the antichain together.
use mathlib.Core.Path.{◌≡◌, refl, sym, ap, subst, ◌∙◌}
use mathlib.Core.Bool.{Bool, true, false}
use mathlib.Core.Logic.{inl, inr, ⊎_elim}
use mathlib.Core.List.{Memᴰ as Mem}
use Prim.Native.Nat.{ℕ, ◌+◌, ◌<◌}
use native.Mathlib.Decide.{ℕ_discrete}
use native.Mathlib.Omega.{arith}
use Rattle.order.specs.Order.{StrictOrder}
use Rattle.paths.specs.Graph.{Graph, Way, Acyclic}
use Rattle.paths.specs.Items.{item_count, owner, ItemWay}
use Rattle.paths.proofs.Items.{item_order}
use Rattle.paths.proofs.Passing.{passing_test, test_passing}
use Rattle.searching.specs.Items.{Tables, Matching, Steps, Reached, from_end, from_next, Exhausted, member_test, members}
use Rattle.chains.proofs.Antichain as Antichain
use Rattle.chains.proofs.Members.{member_open}
use Rattle.chains.proofs.Steps.{steps_way}

module _ {g : Graph} {t : Tables} (exhausted : Exhausted (item_count g) (ItemWay g) t) where
  -- what can be reached is seen
  reached_seen : {b : ℕ} → Reached (item_count g) (ItemWay g) t.next b → t.seen b ≡ 1
  reached_seen (from_end {a = a} {b = b} la lb z r) = exhausted.closed a b la lb (inl z) r
  reached_seen (from_next {a = a} {b = b} {c = c} la lb lc e q r) = exhausted.closed a b la lb (inr (c, lc, e, reached_seen q)) r

  -- what is reached by one item of an owner is reached by each
  seen_owner : {x : ℕ} (y : ℕ) → y < item_count g → owner g x ≡ owner g y → Reached (item_count g) (ItemWay g) t.next x → t.seen y ≡ 1
  seen_owner y ly e (from_end {a = a} la lb z r) = exhausted.closed a y la ly (inl z) (subst (λ (v : ℕ). Way g (owner g a) v) e r)
  seen_owner y ly e (from_next {a = a} {c = c} la lb lc k q r) =
      exhausted.closed a y la ly (inr (c, lc, k, reached_seen q)) (subst (λ (v : ℕ). Way g (owner g a) v) e r)

  pub seen_together : (x y : ℕ) → x < item_count g → y < item_count g → owner g x ≡ owner g y → t.seen x ≡ 1 → t.seen y ≡ 1
  seen_together x y lx ly e s = seen_owner y ly e (exhausted.sound x lx s)

  module _
      (acyclic : Acyclic g)
      (matching : Matching (item_count g) t)
      (pairs : (x y : ℕ) → x < item_count g → y < item_count g → t.next x ≡ y + 1 → ItemWay g x y)
      (bits : (b : ℕ) → b < item_count g → t.seen b < 2) where
    -- an item goes on to a member; where that is another, an item of the same owner is no member
    member_together : (x y : ℕ) → x < item_count g → y < item_count g → owner g x ≡ owner g y → member_test t x ≡ true → member_test t y ≡ true
    member_together x y lx ly e h = ends (Antichain.unseen_ahead order matching pairs bits exhausted y ly (unseen (ℕ_discrete (t.seen y) 1)))
      where
        order : StrictOrder (ItemWay g)
        order = item_order g acyclic

        unseen : Dec (t.seen y ≡ 1) → t.seen y ≡ 0
        unseen (yes s) = omega (arith, seen_together y x ly lx (sym e) s, (member_open t matching lx h).0)
        unseen (no ns) = omega (arith, bits y ly)

        other : (z : ℕ) → Mem z (members t (item_count g)) → ItemWay g y z → ⊥
        other z n r =
            let way : ItemWay g x z = subst (λ (v : ℕ). Way g v (owner g z)) (sym e) r in
            (Antichain.members_apart order matching pairs bits exhausted).apart (test_passing (member_test t) (item_count g) lx h) n
            (λ q. order.irreflexive z (subst (λ (v : ℕ). ItemWay g v z) q way)) way

        ends : (z : ℕ) × Mem z (members t (item_count g)) × Steps t.next y z → member_test t y ≡ true
        ends (z, n, p) =
            ⊎_elim (λ q. ap (member_test t) q ∙ passing_test (member_test t) (item_count g) n) (λ r. absurd (other z n r))
            (steps_way matching order.transitive pairs ly p)

    pub same_test : (x y : ℕ) → x < item_count g → y < item_count g → owner g x ≡ owner g y → member_test t x ≡ member_test t y
    same_test x y lx ly e = go (member_test t x) (member_test t y) refl refl
      where
        go : (a b : Bool) → member_test t x ≡ a → member_test t y ≡ b → member_test t x ≡ member_test t y
        go true b p q = p ∙ sym (member_together x y lx ly e p)
        go false true p q = member_together y x ly lx (sym e) q ∙ sym q
        go false false p q = p ∙ sym q
