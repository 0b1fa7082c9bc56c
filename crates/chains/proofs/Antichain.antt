-- An exhausted search shows a largest antichain, one member on each chain, and of all largest ones the furthest along.
use mathlib.Core.Path.{◌≡◌, refl, sym, ap, subst}
use mathlib.Core.Logic.{◌⊎◌, inl, inr, ⊎_elim}
use mathlib.Core.List.Memᴰ
use mathlib.Core.List.Memᴰ.{head as here}
use mathlib.Core.List.Memᴰ.{tail as there}
use mathlib.Core.List.{
  List,
  [],
  ◌∷◌,
  Memᴰ as Mem,
}
use Prim.Native.Nat.{ℕ, suc, ◌+◌, ◌≤◌, ◌<◌}
use native.Mathlib.Decide.{ℕ_discrete}
use native.Mathlib.Omega.{arith}
use lib.ListN.{length}
use Rattle.order.specs.Order.{All, On, StrictOrder, Chain, single, more, Antichain}
use Rattle.order.proofs.Lists.{all_nil, all_cons}
use Rattle.order.proofs.Pigeonhole.{antichain_le_chains, chain_holds_one}
use Rattle.searching.specs.Items.{Tables, Matching, Steps, stay, go as ahead, Open, Reached, from_end, from_next, Exhausted, member_test, members}
use Rattle.chains.proofs.Members.{member_open, open_member}
use Rattle.paths.proofs.Passing.{passing_below, passing_test, test_passing, passing_nodup}
use Rattle.chains.proofs.Steps.{
  steps_trans,
  steps_one,
  steps_snoc,
  steps_same,
  steps_first,
  steps_last,
  steps_end,
  steps_fork,
  next_injective,
  next_cases,
  prev_cases,
  steps_below,
  steps_join,
  steps_way,
  order_induction,
  turned,
}

-- The chain that `v` is on, as a list.
pub record ChainAt (m : ℕ) (R : ℕ → ℕ → Type 0) (next : ℕ → ℕ) (v : ℕ) (c : List ℕ) : Type 0 where
  pub chain : Chain R c
  pub below : All (λ x. x < m) c
  pub holds : (x : ℕ) → x < m → Steps next x v ⊎ Steps next v x → Mem x c
  pub steps : (x y : ℕ) → Mem x c → Mem y c → Steps next x y ⊎ Steps next y x

-- The items behind `x` on its chain.
record Behind (m : ℕ) (R : ℕ → ℕ → Type 0) (next : ℕ → ℕ) (x : ℕ) : Type 0 where
  rest : List ℕ
  chain : Chain R (x ∷ rest)
  below : All (λ y. y < m) (x ∷ rest)
  steps : All (Steps next x) (x ∷ rest)
  holds : (y : ℕ) → Steps next x y → Mem y (x ∷ rest)

-- A chain for each of the items `vs`.
pub record Chains (m : ℕ) (R : ℕ → ℕ → Type 0) (next : ℕ → ℕ) (vs : List ℕ) : Type 0 where
  pub lists : List (List ℕ)
  pub same : length lists ≡ length vs
  pub from : All (λ c. (v : ℕ) × Mem v vs × ChainAt m R next v c) lists
  pub of : All (λ v. (c : List ℕ) × Mem c lists × ChainAt m R next v c) vs

module _
    {m : ℕ}
    {R : ℕ → ℕ → Type 0}
    {t : Tables}
    (order : StrictOrder R)
    (matching : Matching m t)
    (pairs : (a b : ℕ) → a < m → b < m → t.next a ≡ b + 1 → R a b) where
  behind : (x : ℕ) → x < m → Behind m R t.next x
  behind = order_induction (turned order) m (Behind m R t.next) each
    where
      each : (x : ℕ) → x < m → ((y : ℕ) → y < m → R x y → Behind m R t.next y) → Behind m R t.next x
      each x h rest = by (next_cases matching x h)
        where
          by : (t.next x ≡ 0) ⊎ ((b : ℕ) × (b < m) × (t.next x ≡ b + 1)) → Behind m R t.next x
          by (inl z) =
              record {
                rest = [];
                chain = single;
                below = all_cons h (all_nil _);
                steps = all_cons stay (all_nil _);
                holds = λ y s. here (sym (steps_end z s));
              }
          by (inr (b, lb, e)) = with_rest (rest b lb (pairs x b h lb e))
            where
              with_rest : Behind m R t.next b → Behind m R t.next x
              with_rest r =
                  record {
                    rest = b ∷ r.rest;
                    chain = more (pairs x b h lb e) r.chain;
                    below = all_cons h r.below;
                    steps = all_cons stay (λ y n. ahead e (r.steps y n));
                    holds = λ y s. held y (steps_first e s);
                  }
                where
                  held : (y : ℕ) → (x ≡ y) ⊎ Steps t.next b y → Mem y (x ∷ b ∷ r.rest)
                  held y (inl q) = here (sym q)
                  held y (inr s) = there (r.holds y s)

  -- the first item of a chain
  start : (x : ℕ) → x < m → (s : ℕ) × (s < m) × Steps t.next s x × (t.prev s ≡ 0)
  start = order_induction order m (λ x. (s : ℕ) × (s < m) × Steps t.next s x × (t.prev s ≡ 0)) each
    where
      each : (x : ℕ) → x < m → ((y : ℕ) → y < m → R y x → (s : ℕ) × (s < m) × Steps t.next s y × (t.prev s ≡ 0))
          → (s : ℕ) × (s < m) × Steps t.next s x × (t.prev s ≡ 0)
      each x h rest = by (prev_cases matching x h)
        where
          by : (t.prev x ≡ 0) ⊎ ((a : ℕ) × (a < m) × (t.next a ≡ x + 1)) → (s : ℕ) × (s < m) × Steps t.next s x × (t.prev s ≡ 0)
          by (inl z) = (x, h, stay, z)
          by (inr (a, la, e)) = let r = rest a la (pairs a x la h e) in (r.0, r.1, steps_snoc r.2 e, r.3)

  -- the chain of an item
  pub chain_at : (v : ℕ) → v < m → (c : List ℕ) × ChainAt m R t.next v c
  chain_at v h = from (start v h)
    where
      from : (s : ℕ) × (s < m) × Steps t.next s v × (t.prev s ≡ 0) → (c : List ℕ) × ChainAt m R t.next v c
      from (s, ls, sv, z) = (
        s ∷ r.rest,
        record {
          chain = r.chain;
          below = r.below;
          holds = λ x lx o. r.holds x (⊎_elim (λ xv. onward x lx (steps_join matching ls lx sv xv)) (λ vx. steps_trans sv vx) o);
          steps = λ x y p q. steps_fork (r.steps x p) (r.steps y q);
        },
      )
        where
          r : Behind m R t.next s
          r = behind s ls

          -- nothing stands before the first
          onward : (x : ℕ) → x < m → Steps t.next s x ⊎ Steps t.next x s → Steps t.next s x
          onward x lx (inl p) = p
          onward x lx (inr p) = last (steps_last p)
            where
              last : (x ≡ s) ⊎ ((d : ℕ) × Steps t.next x d × (t.next d ≡ s + 1)) → Steps t.next s x
              last (inl e) = steps_same (sym e)
              last (inr (d, q, e)) =
                  let f : t.prev s ≡ d + 1 = matching.there d s (steps_below matching lx q) ls e in
                  let none : ⊥ = omega arith in
                  absurd none

  chains_at : (vs : List ℕ) → All (λ v. v < m) vs → Chains m R t.next vs
  chains_at [] h = record { lists = []; same = refl; from = all_nil _; of = all_nil _ }
  chains_at (v ∷ vs) h = add (chain_at v (h v (here refl))) (chains_at vs (λ x n. h x (there n)))
    where
      add : (c : List ℕ) × ChainAt m R t.next v c → Chains m R t.next vs → Chains m R t.next (v ∷ vs)
      add (c, q) r =
          record {
            lists = c ∷ r.lists;
            same = ap suc r.same;
            from = all_cons (v, here refl, q) (λ x n. let o = r.from x n in (o.0, there o.1, o.2));
            of = all_cons (c, here refl, q) (λ x n. let o = r.of x n in (o.0, there o.1, o.2));
          }

  module _ (bits : (b : ℕ) → b < m → t.seen b < 2) (exhausted : Exhausted m R t) where
    -- an open item has seen all that it has in R, and no member is seen
    pub members_apart : Antichain R (members t m)
    members_apart = record { once = passing_nodup (member_test t) m; apart = λ p q ne r. apart p q r }
      where
        apart : {a b : ℕ} → Mem a (members t m) → Mem b (members t m) → R a b → ⊥
        apart {a} {b} p q r =
            let la : a < m = passing_below (member_test t) m p in
            let lb : b < m = passing_below (member_test t) m q in
            let unseen : t.seen b ≡ 0 = (member_open t matching lb (passing_test (member_test t) m q)).0 in
            let seen : t.seen b ≡ 1 = exhausted.closed a b la lb (member_open t matching la (passing_test (member_test t) m p)).1 r in
            omega arith

    -- what is open and not seen is a member
    is_member : (x : ℕ) → x < m → t.seen x ≡ 0 → Open m t x → Mem x (members t m)
    is_member x h z o = test_passing (member_test t) m h (open_member t z o)

    -- an item that is not seen goes on to a member
    pub unseen_ahead : (x : ℕ) → x < m → t.seen x ≡ 0 → (v : ℕ) × Mem v (members t m) × Steps t.next x v
    unseen_ahead = order_induction (turned order) m (λ x. t.seen x ≡ 0 → (v : ℕ) × Mem v (members t m) × Steps t.next x v) each
      where
        each : (x : ℕ) → x < m → ((y : ℕ) → y < m → R x y → t.seen y ≡ 0 → (v : ℕ) × Mem v (members t m) × Steps t.next y v)
            → t.seen x ≡ 0 → (v : ℕ) × Mem v (members t m) × Steps t.next x v
        each x h rest z = by (next_cases matching x h)
          where
            by : (t.next x ≡ 0) ⊎ ((b : ℕ) × (b < m) × (t.next x ≡ b + 1)) → (v : ℕ) × Mem v (members t m) × Steps t.next x v
            by (inl e) = (x, is_member x h z (inl e), stay)
            by (inr (b, lb, e)) = on (ℕ_discrete (t.seen b) 1)
              where
                on : Dec (t.seen b ≡ 1) → (v : ℕ) × Mem v (members t m) × Steps t.next x v
                on (yes s) = (x, is_member x h z (inr (b, lb, e, s)), stay)
                on (no ns) =
                    let bit : t.seen b < 2 = bits b lb in
                    let r = rest b lb (pairs x b h lb e) (omega arith) in
                    (r.0, r.1, ahead e r.2)

    -- an item that is seen has a member before it
    seen_behind : (x : ℕ) → x < m → t.seen x ≡ 1 → (v : ℕ) × Mem v (members t m) × Steps t.next v x
    seen_behind = order_induction order m (λ x. t.seen x ≡ 1 → (v : ℕ) × Mem v (members t m) × Steps t.next v x) each
      where
        each : (x : ℕ) → x < m → ((y : ℕ) → y < m → R y x → t.seen y ≡ 1 → (v : ℕ) × Mem v (members t m) × Steps t.next v y)
            → t.seen x ≡ 1 → (v : ℕ) × Mem v (members t m) × Steps t.next v x
        each x h rest s = by (prev_cases matching x h)
          where
            by : (t.prev x ≡ 0) ⊎ ((a : ℕ) × (a < m) × (t.next a ≡ x + 1)) → (v : ℕ) × Mem v (members t m) × Steps t.next v x
            by (inl z) = let kept : 0 < t.prev x = exhausted.kept x h s in let none : ⊥ = omega arith in absurd none
            by (inr (a, la, e)) = on (ℕ_discrete (t.seen a) 1)
              where
                on : Dec (t.seen a ≡ 1) → (v : ℕ) × Mem v (members t m) × Steps t.next v x
                on (yes sa) = let r = rest a la (pairs a x la h e) sa in (r.0, r.1, steps_snoc r.2 e)
                on (no ns) =
                    let bit : t.seen a < 2 = bits a la in
                    (a, is_member a la (omega arith) (inr (x, h, e, s)), steps_one e)

    -- there is a member on every chain
    pub on_a_chain : (x : ℕ) → x < m → (v : ℕ) × Mem v (members t m) × (Steps t.next x v ⊎ Steps t.next v x)
    on_a_chain x h = by (ℕ_discrete (t.seen x) 1)
      where
        by : Dec (t.seen x ≡ 1) → (v : ℕ) × Mem v (members t m) × (Steps t.next x v ⊎ Steps t.next v x)
        by (yes s) = let r = seen_behind x h s in (r.0, r.1, inr r.2)
        by (no ns) =
            let bit : t.seen x < 2 = bits x h in
            let r = unseen_ahead x h (omega arith) in
            (r.0, r.1, inl r.2)

    member_chains : Chains m R t.next (members t m)
    member_chains = chains_at (members t m) (λ v n. passing_below (member_test t) m n)

    -- every item is on the chain of a member
    on_chains : (x : ℕ) → x < m → On member_chains.lists x
    on_chains x h =
        let p = on_a_chain x h in
        let c = member_chains.of p.0 p.1 in
        (c.0, c.1, c.2.holds x h p.2)

    -- no antichain has more members
    pub length_le : (s : List ℕ) → Antichain R s → All (λ a. a < m) s → length s ≤ length (members t m)
    length_le s anti below =
        let le : length s ≤ length member_chains.lists =
        antichain_le_chains ℕ_discrete order.transitive member_chains.lists s (λ c n. (member_chains.from c n).2.chain) anti
        (λ x n. on_chains x (below x n)) in
        let e : length member_chains.lists ≡ length (members t m) = member_chains.same in
        omega arith

    module _ (s : List ℕ) (anti : Antichain R s) (below : All (λ a. a < m) s) (same : length s ≡ length (members t m)) where
      -- each chain holds one of `s`
      one_of : (x : ℕ) → x < m → (a : ℕ) × Mem a s × (Steps t.next a x ⊎ Steps t.next x a)
      one_of x h =
          let o = on_chains x h in
          let e : length member_chains.lists ≡ length (members t m) = member_chains.same in
          let one =
          chain_holds_one ℕ_discrete order.transitive member_chains.lists s (λ c n. (member_chains.from c n).2.chain) anti
          (λ y n. on_chains y (below y n)) (omega arith) o.0 o.1 in
          (one.0, one.1, (member_chains.from o.0 o.1).2.steps one.0 x one.2 o.2)

      no_two : {a b : ℕ} → Mem a s → Mem b s → R a b → ⊥
      no_two {a} {b} p q r =
          anti.apart p q (λ e. order.irreflexive b (subst (λ (x : ℕ). R x b) e r)) r

      -- one of `s` stands before `b`, on the same chain
      Before : ℕ → Type 0
      Before b = (a : ℕ) × Mem a s × (d : ℕ) × (d < m) × Steps t.next a d × (t.next d ≡ b + 1)

      -- at the end of its chain an item has one of `s` at it or before it
      end_from : (a : ℕ) → a < m → t.next a ≡ 0 → (x : ℕ) × Mem x s × Steps t.next x a
      end_from a h z = let o = one_of a h in (o.0, o.1, ⊎_elim (λ p. p) (λ p. steps_same (sym (steps_end z p))) o.2)

      -- so it has where one of `s` stands before the item behind it
      next_from : (a c : ℕ) → a < m → c < m → t.next a ≡ c + 1 → Before c → (x : ℕ) × Mem x s × Steps t.next x a
      unfolding Before
      next_from a c la lc e (x, n, d, ld, p, f) =
          let same : d ≡ a = next_injective matching ld la lc f e in
          (x, n, subst (λ (y : ℕ). Steps t.next x y) same p)

      -- then one of `s` stands before all that the item has in R
      past : (a b : ℕ) → a < m → b < m → R a b → (x : ℕ) × Mem x s × Steps t.next x a → Before b
      unfolding Before
      past a b la lb r (x, n, p) = by (one_of b lb)
        where
          -- it has a way to b
          xb : R x b
          xb =
              ⊎_elim (λ e. subst (λ (y : ℕ). R y b) (sym e) r) (λ q. order.transitive x a b q r)
              (steps_way matching order.transitive pairs (below x n) p)

          last : (u : ℕ) → Mem u s → (u ≡ b) ⊎ ((d : ℕ) × Steps t.next u d × (t.next d ≡ b + 1))
              → (a : ℕ) × Mem a s × (d : ℕ) × (d < m) × Steps t.next a d × (t.next d ≡ b + 1)
          last u k (inl e) = absurd (no_two n k (subst (λ (y : ℕ). R x y) (sym e) xb))
          last u k (inr (d, q, e)) = (u, k, d, steps_below matching (below u k) q, q, e)

          by : (u : ℕ) × Mem u s × (Steps t.next u b ⊎ Steps t.next b u)
              → (a : ℕ) × Mem a s × (d : ℕ) × (d < m) × Steps t.next a d × (t.next d ≡ b + 1)
          by (u, k, inl q) = last u k (steps_last q)
          by (u, k, inr q) =
              absurd
              (⊎_elim (λ e. no_two n k (subst (λ (y : ℕ). R x y) e xb)) (λ w. no_two n k (order.transitive x b u xb w))
              (steps_way matching order.transitive pairs lb q))

      reached_before : {b : ℕ} → Reached m R t.next b → Before b
      reached_before (from_end {a = a} {b = b} la lb z r) = past a b la lb r (end_from a la z)
      reached_before (from_next {a = a} {b = b} {c = c} la lb lc e q r) =
          past a b la lb r (next_from a c la lc e (reached_before q))

      pub furthest : All (λ v. Mem v s ⊎ ((a : ℕ) × Mem a s × R a v)) (members t m)
      furthest v n =
          along
          (⊎_elim (end_from v lv)
          (λ o. next_from v o.0 lv o.1 o.2 (reached_before (exhausted.sound o.0 o.1 o.3)))
          is_open)
        where
          lv : v < m
          lv = passing_below (member_test t) m n

          is_open : Open m t v
          is_open = (member_open t matching lv (passing_test (member_test t) m n)).1

          along : (x : ℕ) × Mem x s × Steps t.next x v → Mem v s ⊎ ((a : ℕ) × Mem a s × R a v)
          along (x, k, p) =
              ⊎_elim (λ e. inl (Memᴰ.cast (sym e) k)) (λ r. inr (x, k, r)) (steps_way matching order.transitive pairs (below x k) p)
