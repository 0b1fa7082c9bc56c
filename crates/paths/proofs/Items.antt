-- Items: whose they are, how many, and how sets and chains of items stand for apart sets and threads. The items of `v` are those from `first_item g v`
-- on, as many as `v` has voices; no two of them are on one chain, since `v` would have a way to itself.
use mathlib.Core.Path.{◌≡◌, refl, sym, ap, ap₂, subst, ◌∙◌}
use mathlib.Core.Bool.{Bool, true, false, ◌&&◌}
use mathlib.Core.Logic.{◌⊎◌, inl, inr, ⊎_elim}
use mathlib.Core.List.Memᴰ
use mathlib.Core.List.Memᴰ.{append_cases}
use mathlib.Core.List.Memᴰ.{cases_cons as mem-cases}
use mathlib.Core.List.Memᴰ.{eq_of_singleton}
use mathlib.Core.List.Memᴰ.{head as here}
use mathlib.Core.List.Memᴰ.{not-nil}
use mathlib.Core.List.Memᴰ.{tail as there}
use mathlib.Core.List.Pairwise
use mathlib.Core.List.{
  List,
  [],
  ◌∷◌,
  ◌++◌,
  map,
  append-nil,
  append_assoc,
  map-append,
  Memᴰ as Mem,
  Nodup,
}
use Prim.Native.Nat.{ℕ, zero, suc, zero-le, ◌+◌, ◌-◌, ◌≤◌, ◌<◌}
use native.Mathlib.Decide.{ℕ_discrete, dec_le}
use native.Mathlib.Nat.{add-zero}
use native.Mathlib.Numerals.{add-one}
use native.Mathlib.Omega.{arith}
use lib.Dec.{ltb}
use lib.ListN.{length, get_or, replicate, length-append, length-replicate, length-map, get_or-append, get_or-replicate}
use lib.Seq.{get_or-append-add}
use borrow.Author.Tests.{lt-ltb}
use Rattle.std.proofs.lemmas.List.{replicate_more}
use Rattle.order.specs.Order.{All, On, StrictOrder, Chain, single, more, Antichain}
use Rattle.order.proofs.Lists.{
  all_nil,
  all_cons,
  around,
  get_d_mem,
  replicate_mem,
  nodup_head,
  nodup_tail,
  nodup_cons,
  nodup_le,
  find,
  dec_mem,
  without,
  without_mem,
  without_nodup,
  length_without_one,
}
use Rattle.order.proofs.Chains.{chain_compare, not_empty}
use Rattle.paths.specs.Graph.{Graph, Episode, EndsBelow, Way, Acyclic, Thread, member, passing_threads, weight}
use Rattle.paths.specs.Passing.{extend, passing}
use Rattle.paths.specs.Items.{owners, item_count, owner, first_item, ItemWay, by_voices}
use Rattle.paths.specs.OneVoice.{OneVoice}
use Rattle.paths.proofs.Ways.{way_trans}
use Rattle.paths.proofs.Threads.{chain_thread}
use Rattle.paths.proofs.Links.{both}
use Rattle.paths.proofs.Passing.{passing_more, passing_skip, passing_below, passing_test, test_passing, passing_nodup}
use Rattle.paths.proofs.Counting.{member_mem, mem_member, passing_cons, passing_held}

-- whether `v` has voices and its first item passes
abbrev pub first_passes : Graph → (ℕ → Bool) → ℕ → Bool
first_passes g test v = ltb 0 (g.voices v) && test (first_item g v)

-- owners are looked up below `n` alone
pub owners_same : (f g : ℕ → ℕ) (n : ℕ) → ((v : ℕ) → v < n → f v ≡ g v) → owners f n ≡ owners g n
unfolding owners
owners_same f g zero same = refl
owners_same f g (suc n) same =
    let rest : owners f n ≡ owners g n = owners_same f g n (λ v h. same v (omega arith)) in
    cc (rest, same n (omega arith))

pub by_voices_length : (g : Graph) (s : List ℕ) → length (by_voices g.voices s) ≡ weight g s
unfolding by_voices weight
by_voices_length g [] = refl
by_voices_length g (v ∷ s) =
    omega (
      arith,
      length-append (replicate (g.voices v) v) (by_voices g.voices s),
      length-replicate (g.voices v) v,
      by_voices_length g s,
    )

by_voices_append : (voices : ℕ → ℕ) (p q : List ℕ) → by_voices voices (p ++ q) ≡ by_voices voices p ++ by_voices voices q
unfolding by_voices
by_voices_append voices [] q = refl
by_voices_append voices (v ∷ p) q =
    ap (λ (l : List ℕ). replicate (voices v) v ++ l) (by_voices_append voices p q)
    ∙ sym (append_assoc (replicate (voices v) v) (by_voices voices p) (by_voices voices q))

by_voices_one : (voices : ℕ → ℕ) (v : ℕ) → by_voices voices (v ∷ []) ≡ replicate (voices v) v
unfolding by_voices
by_voices_one voices v = append-nil (replicate (voices v) v)

weight_append : (g : Graph) (p q : List ℕ) → weight g (p ++ q) ≡ weight g p + weight g q
unfolding weight
weight_append g [] q = omega arith
weight_append g (v ∷ p) q = omega (arith, weight_append g p q)

-- different episodes of which those with voices are all among others have at most as many voices
pub weight_voiced : (g : Graph) (r s : List ℕ) → Nodup r → ((v : ℕ) → Mem v r → 1 ≤ g.voices v → Mem v s) → weight g r ≤ weight g s
unfolding weight
weight_voiced g [] s once h = zero-le
weight_voiced g (a ∷ r) s once h = go (dec_le 1 (g.voices a)) (weight_voiced g r)
  where
    go : Dec (1 ≤ g.voices a)
        → ((s : List ℕ) → Nodup r → ((v : ℕ) → Mem v r → 1 ≤ g.voices v → Mem v s) → weight g r ≤ weight g s)
        → g.voices a + weight g r ≤ weight g s
    go (no n) rest = omega (arith, rest s (nodup_tail once) (λ v m. h v (there m)))
    go (yes p) rest =
        let (before, behind, e) = around s (h a (here refl) p) in
        let le : weight g r ≤ weight g (before ++ behind) = rest (before ++ behind) (nodup_tail once) (other before behind e) in
        omega (arith, ap (weight g) e, weight_append g before (a ∷ behind), weight_append g before behind)
      where
        other : (p q : List ℕ) → s ≡ p ++ a ∷ q → (v : ℕ) → Mem v r → 1 ≤ g.voices v → Mem v (p ++ q)
        other p q e v m o =
            let n : Mem v (p ++ a ∷ q) = rw (← e) (h v (there m) o) in
            ⊎_elim (λ k. Memᴰ.append_left q k)
            (λ k. ⊎_elim (λ f. absurd (nodup_head once (Memᴰ.cast (sym f) m))) (λ i. Memᴰ.append_right p i) (mem-cases k))
            (append_cases p n)

-- different episodes that are all among others have at most as many voices
pub weight_le : (g : Graph) (r s : List ℕ) → Nodup r → All (λ v. Mem v s) r → weight g r ≤ weight g s
weight_le g r s once h = weight_voiced g r s once (λ v m p. h v m)

-- the owners below `k`
pub owners_below : (voices : ℕ → ℕ) (k : ℕ) → All (λ v. (v < k) × (1 ≤ voices v)) (owners voices k)
unfolding owners
owners_below voices zero v m = absurd (not-nil m)
owners_below voices (suc k) v m =
    ⊎_elim (λ n. let h = owners_below voices k v n in (omega arith, h.1))
    (λ n. let h = replicate_mem (voices k) n in (omega arith, rw h.0 h.1))
    (append_cases (owners voices k) m)

-- the items of `v` stand behind those of the episodes before it
pub owners_split : (voices : ℕ → ℕ) (v n : ℕ) → v < n → (rest : List ℕ) × (owners voices n ≡ (owners voices v ++ replicate (voices v) v) ++ rest)
unfolding owners
owners_split voices v zero h = absurd (omega arith)
owners_split voices v (suc n) h = go (ℕ_discrete v n) (owners_split voices v n)
  where
    front : List ℕ
    front = owners voices v ++ replicate (voices v) v

    go : Dec (v ≡ n) → (v < n → (rest : List ℕ) × (owners voices n ≡ front ++ rest))
        → (rest : List ℕ) × (owners voices n ++ replicate (voices n) n ≡ front ++ rest)
    go (yes e) rest = ([], rw e (sym (append-nil (owners voices n ++ replicate (voices n) n))))
    go (no ne) rest =
        let (l, e) = rest (omega arith) in (
          l ++ replicate (voices n) n,
          ap (λ (k : List ℕ). k ++ replicate (voices n) n) e ∙ append_assoc front l (replicate (voices n) n),
        )

pub owners_next : (voices : ℕ → ℕ) (k : ℕ) → length (owners voices (suc k)) ≡ length (owners voices k) + voices k
unfolding owners
owners_next voices k = omega (arith, length-append (owners voices k) (replicate (voices k) k), length-replicate (voices k) k)

owners_few : (voices : ℕ → ℕ) (k : ℕ) → ((v : ℕ) → v < k → voices v ≤ 2) → length (owners voices k) ≤ k + k
unfolding owners
owners_few voices zero h = omega arith
owners_few voices (suc k) h =
    omega (arith, owners_next voices k, h k (omega arith), owners_few voices k (λ v l. h v (omega arith)))

owners_one : (voices : ℕ → ℕ) (k : ℕ) → ((v : ℕ) → v < k → voices v ≡ 1) → length (owners voices k) ≡ k
unfolding owners
owners_one voices zero h = refl
owners_one voices (suc k) h =
    omega (arith, owners_next voices k, h k (omega arith), owners_one voices k (λ v l. h v (omega arith)))

module _ (g : Graph) where
  pub owner_below : (x : ℕ) → x < item_count g → owner g x < g.n
  owner_below x h = (owners_below g.voices g.n (owner g x) (get_d_mem (owners g.voices g.n) x 0 h)).0

  pub owner_voiced : (x : ℕ) → x < item_count g → 1 ≤ g.voices (owner g x)
  owner_voiced x h = (owners_below g.voices g.n (owner g x) (get_d_mem (owners g.voices g.n) x 0 h)).1

  -- the items of an episode stand behind each other
  pub item_of : (v j : ℕ) → v < g.n → j < g.voices v → (first_item g v + j < item_count g) × (owner g (first_item g v + j) ≡ v)
  item_of v j h k =
      let (rest, e) = owners_split g.voices v g.n h in
      let own : List ℕ = replicate (g.voices v) v in
      let front : List ℕ = owners g.voices v ++ own in
      let size : length front ≡ first_item g v + g.voices v =
      length-append (owners g.voices v) own ∙ ap (λ (c : ℕ). first_item g v + c) (length-replicate (g.voices v) v) in (
        omega (arith, ap length e, length-append front rest),
        ap (λ (l : List ℕ). get_or l (first_item g v + j) 0) e
            ∙ get_or-append front rest 0 (first_item g v + j) (omega arith)
            ∙ get_or-append-add (owners g.voices v) own j 0
            ∙ get_or-replicate (g.voices v) j v 0 k,
      )

  pub first_of : (v : ℕ) → v < g.n → 1 ≤ g.voices v → (first_item g v < item_count g) × (owner g (first_item g v) ≡ v)
  first_of v h k = rw add-zero at (item_of v 0 h k)

  module _ (test : ℕ → Bool) where
    -- some items on of one owner, which all pass
    stretch : (v a c : ℕ) → ((j : ℕ) → j < c → test (a + j) ≡ true) → ((j : ℕ) → j < c → owner g (a + j) ≡ v)
        → map (owner g) (passing test (a + c)) ≡ map (owner g) (passing test a) ++ replicate c v
    stretch v a zero pass own = rw add-zero (sym (append-nil (map (owner g) (passing test a))))
    stretch v a (suc c) pass own =
        let next : a + suc c ≡ (a + c) + 1 = omega arith in
        rw next
        (ap (map (owner g)) (passing_more test (a + c) (pass c (omega arith)))
        ∙ map-append (owner g) (passing test (a + c)) ((a + c) ∷ [])
        ∙ ap₂ (λ (l : List ℕ) (x : ℕ). l ++ x ∷ [])
        (stretch v a c (λ j h. pass j (omega arith)) (λ j h. own j (omega arith)))
        (own c (omega arith))
        ∙ append_assoc (map (owner g) (passing test a)) (replicate c v) (v ∷ [])
        ∙ ap (λ (l : List ℕ). map (owner g) (passing test a) ++ l) (replicate_more c v ∙ rw add-one refl))

    module _ (same : (x y : ℕ) → x < item_count g → y < item_count g → owner g x ≡ owner g y → test x ≡ test y) where
      -- the items of `v` all pass or none does
      alike : (v j : ℕ) → v < g.n → j < g.voices v → test (first_item g v + j) ≡ first_passes g test v
      alike v j h k =
          let voiced : 1 ≤ g.voices v = omega arith in
          let a = item_of v j h k in
          let b = first_of v h voiced in
          same (first_item g v + j) (first_item g v) a.0 b.0 (a.1 ∙ sym b.1) ∙ rw (lt-ltb 0 (g.voices v) voiced) refl

      below_owners : (k : ℕ) → k ≤ g.n
          → map (owner g) (passing test (first_item g k)) ≡ by_voices g.voices (passing (first_passes g test) k)
      unfolding owners passing by_voices
      below_owners zero h = refl
      below_owners (suc k) h =
          ap (λ (x : ℕ). map (owner g) (passing test x)) (owners_next g.voices k)
          ∙ go (first_passes g test k) refl (below_owners k (omega arith))
        where
          go : (b : Bool) → first_passes g test k ≡ b
              → map (owner g) (passing test (first_item g k)) ≡ by_voices g.voices (passing (first_passes g test) k)
              → map (owner g) (passing test (first_item g k + g.voices k)) ≡ by_voices g.voices (extend b (passing (first_passes g test) k) k)
          go true e rest =
              stretch k (first_item g k) (g.voices k) (λ j l. alike k j (omega arith) l ∙ e) (λ j l. (item_of k j (omega arith) l).1)
              ∙ ap₂ (λ (a b : List ℕ). a ++ b) rest (sym (by_voices_one g.voices k))
              ∙ sym (by_voices_append g.voices (passing (first_passes g test) k) (k ∷ []))
          go false e rest =
              ap (map (owner g))
              (passing_skip test (first_item g k) (first_item g k + g.voices k) (omega arith)
              (λ x l m.
              let at : first_item g k + (x - first_item g k) ≡ x = omega arith in
              rw at at (alike k (x - first_item g k) (omega arith) (omega arith) ∙ e)))
              ∙ rest

  -- where items of one owner pass together, the owners of those that pass are the episodes whose first item passes, each as often as it has voices
  pub passing_owners : (test : ℕ → Bool)
      → ((x y : ℕ) → x < item_count g → y < item_count g → owner g x ≡ owner g y → test x ≡ test y)
      → map (owner g) (passing test (item_count g)) ≡ by_voices g.voices (passing (first_passes g test) g.n)
  passing_owners test same = below_owners test same g.n (omega arith)

  -- the items of different episodes are as many as these have voices
  pub items_weight : (r : List ℕ) → Nodup r → All (Episode g) r
      → length (passing (λ x. member (owner g x) r) (item_count g)) ≡ weight g r
  items_weight r once episodes =
      let many : length (map (owner g) (passing test (item_count g))) ≡ weight g s =
      ap length (passing_owners test (λ x y h k e. ap (λ (v : ℕ). member v r) e)) ∙ by_voices_length g s in
      let le : weight g s ≤ weight g r = weight_voiced g s r (passing_nodup (first_passes g test) g.n) from in
      let ge : weight g r ≤ weight g s = weight_voiced g r s once to in
      omega (arith, length-map (passing test (item_count g)) (owner g))
    where
      test : ℕ → Bool
      test x = member (owner g x) r

      s : List ℕ
      s = passing (first_passes g test) g.n

      from : (v : ℕ) → Mem v s → 1 ≤ g.voices v → Mem v r
      from v m voiced =
          let q = both (ltb 0 (g.voices v)) (test (first_item g v)) (passing_test (first_passes g test) g.n m) in
          Memᴰ.cast (sym (first_of v (passing_below (first_passes g test) g.n m) voiced).1) (member_mem (owner g (first_item g v)) r q.1)

      to : (v : ℕ) → Mem v r → 1 ≤ g.voices v → Mem v s
      to v m voiced =
          let h = episodes v m in
          test_passing (first_passes g test) g.n h
          (rw (lt-ltb 0 (g.voices v) voiced) (ap (λ (x : ℕ). member x r) (first_of v h voiced).1 ∙ mem_member v r m))

  -- where no episode has more than two voices there are at most two items for each, and where each has one they are the episodes
  pub items_few : ((v : ℕ) → Episode g v → g.voices v ≤ 2) → item_count g ≤ g.n + g.n
  items_few few = owners_few g.voices g.n few

  pub items_one : OneVoice g → item_count g ≡ g.n
  items_one voices = owners_one g.voices g.n voices

  pub owner_one : OneVoice g → (x : ℕ) → x < g.n → owner g x ≡ x
  owner_one voices x h =
      let first : first_item g x ≡ x = owners_one g.voices x (λ v l. voices v (omega arith)) in
      let voiced : 1 ≤ g.voices x = omega (arith, voices x h) in
      rw first at (first_of x h voiced).1

  pub item_order : Acyclic g → StrictOrder (ItemWay g)
  item_order acyclic =
      record {
        irreflexive = λ x w. acyclic (owner g x) w;
        transitive = λ x y z v w. way_trans (owner g x) (owner g y) (owner g z) v w;
      }

-- each of some threads holds the owners of a chain of items
unfoldable pub Filled : Graph → List (List ℕ) → List (List ℕ) → Type 0
Filled g [] [] = Unit {0}
Filled g [] (t ∷ ts) = ⊥
Filled g (c ∷ cs) [] = ⊥
Filled g (c ∷ cs) (t ∷ ts) = Thread g t × All (λ x. Mem (owner g x) t) c × Filled g cs ts

-- Different items of `v` are on different chains, so they are at most as many as the threads that pass `v`.
module _ (g : Graph) (acyclic : Acyclic g) (v : ℕ) where
  one_chain : {c : List ℕ} {x y : ℕ} → Chain (ItemWay g) c → owner g x ≡ v → owner g y ≡ v → Mem x c → Mem y c → x ≡ y
  one_chain {x = x} {y = y} chain e f m n =
      ⊎_elim (λ same. same) (λ w. absurd (⊎_elim (λ a. acyclic v (rw (e, f) at a)) (λ b. acyclic v (rw (f, e) at b)) w))
      (chain_compare (item_order g acyclic).transitive chain m n)

  passed_items : (cs ts : List (List ℕ)) (X : List ℕ) → All (Chain (ItemWay g)) cs → Filled g cs ts → Nodup X → All (λ x. owner g x ≡ v) X
      → All (On cs) X → length X ≤ passing_threads v ts
  unfolding Filled
  passed_items [] [] [] chains filled once own on = zero-le
  passed_items [] [] (x ∷ X) chains filled once own on = absurd (not-nil (on x (here refl)).1)
  passed_items [] (t ∷ ts) X chains filled once own on = absurd filled
  passed_items (c ∷ cs) [] X chains filled once own on = absurd filled
  passed_items (c ∷ cs) (t ∷ ts) X chains filled once own on =
      go (find (λ x. dec_mem ℕ_discrete x c) X)
      (λ Y. passed_items cs ts Y (λ d m. chains d (there m)) filled.2)
    where
      others : List ℕ
      others = without ℕ_discrete c X

      later : (x : ℕ) → (Mem x c → ⊥) → On (c ∷ cs) x → On cs x
      later x nc o = ⊎_elim (λ e. absurd (nc (subst (λ (l : List ℕ). Mem x l) e o.2))) (λ m. (o.0, m, o.2)) (mem-cases o.1)

      go : ((x : ℕ) × Mem x X × Mem x c) ⊎ All (λ x. Mem x c → ⊥) X
          → ((Y : List ℕ) → Nodup Y → All (λ x. owner g x ≡ v) Y → All (On cs) Y → length Y ≤ passing_threads v ts)
          → length X ≤ passing_threads v (t ∷ ts)
      go (inr none) rest = omega (arith, passing_cons v t ts, rest X once own (λ x m. later x (none x m) (on x m)))
      go (inl (x, m, n)) rest =
          let one : length X ≤ suc (length others) =
          length_without_one ℕ_discrete c X once
          (λ y z ym zm yc zc. one_chain (chains c (here refl)) (own y ym) (own z zm) yc zc) in
          let few : length others ≤ passing_threads v ts =
          rest others (without_nodup ℕ_discrete c X once) (λ y k. own y (without_mem ℕ_discrete c X k).0)
          (λ y k. let h = without_mem ℕ_discrete c X k in later y h.1 (on y h.0)) in
          let held : passing_threads v (t ∷ ts) ≡ suc (passing_threads v ts) = passing_held ts (Memᴰ.cast (sym (own x m)) (filled.1 x n)) in
          omega arith

-- where every item is on one of some chains, at least as many of the threads that they are filled to pass each episode as it has voices
pub filled_enough : (g : Graph) → Acyclic g → (cs ts : List (List ℕ)) → All (Chain (ItemWay g)) cs → ((x : ℕ) → x < item_count g → On cs x)
    → Filled g cs ts → (v : ℕ) → Episode g v → g.voices v ≤ passing_threads v ts
unfolding weight
filled_enough g acyclic cs ts chains on filled v h =
    let many : length X ≡ weight g (v ∷ []) = items_weight g (v ∷ []) (nodup_cons not-nil Pairwise.nil) (all_cons h (all_nil _)) in
    let few : length X ≤ passing_threads v ts =
    passed_items g acyclic v cs ts X chains filled (passing_nodup test (item_count g))
    (λ x m. eq_of_singleton (member_mem (owner g x) (v ∷ []) (passing_test test (item_count g) m)))
    (λ x m. on x (passing_below test (item_count g) m)) in
    omega arith
  where
    test : ℕ → Bool
    test x = member (owner g x) (v ∷ [])

    X : List ℕ
    X = passing test (item_count g)

pub filled_threads : (g : Graph) (cs ts : List (List ℕ)) → Filled g cs ts → All (Thread g) ts
unfolding Filled
filled_threads g [] [] filled = all_nil _
filled_threads g [] (t ∷ ts) filled = absurd filled
filled_threads g (c ∷ cs) [] filled = absurd filled
filled_threads g (c ∷ cs) (t ∷ ts) filled = all_cons filled.0 (filled_threads g cs ts filled.2)

-- the owners of a chain of items are a chain of ways
chain_owners : {g : Graph} {l : List ℕ} → Chain (ItemWay g) l → Chain (Way g) (map (owner g) l)
chain_owners single = single
chain_owners (more w c) = more w (chain_owners c)

-- chains of items can be filled to as many threads
pub fill : (g : Graph) → EndsBelow g → (cs : List (List ℕ)) → All (Chain (ItemWay g)) cs → All (All (λ x. x < item_count g)) cs
    → (ts : List (List ℕ)) × Filled g cs ts × (length ts ≡ length cs)
unfolding Filled
fill g ends [] chains items = ([], tt, refl)
fill g ends ([] ∷ cs) chains items = absurd (not_empty (chains [] (here refl)))
fill g ends ((x ∷ l) ∷ cs) chains items =
    let (m, thread, holds) = chain_thread ends (chain_owners (chains (x ∷ l) (here refl))) episodes in
    let (ts, filled, same) = fill g ends cs (λ c n. chains c (there n)) (λ c n. items c (there n)) in
    ((owner g x ∷ m) ∷ ts, (thread, λ y n. holds (owner g y) (Memᴰ.map (owner g) n), filled), ap suc same)
  where
    episodes : All (Episode g) (map (owner g) (x ∷ l))
    episodes v n =
        let (y, k, e) = Memᴰ.of_map (owner g) (x ∷ l) n in
        subst (Episode g) e (owner_below g y (items (x ∷ l) (here refl) y k))

-- The owners of some items.
module _ (g : Graph) (X : List ℕ) where
  among : ℕ → Bool
  among v = member v (map (owner g) X)

  pub owned : List ℕ
  owned = passing among g.n

  owned_item : {v : ℕ} → Mem v owned → (x : ℕ) × Mem x X × (owner g x ≡ v)
  unfolding owned among
  owned_item {v} m = Memᴰ.of_map (owner g) X (member_mem v (map (owner g) X) (passing_test among g.n m))

  item_owned : {x : ℕ} → x < item_count g → Mem x X → Mem (owner g x) owned
  unfolding owned among
  item_owned {x} h m = test_passing among g.n (owner_below g x h) (mem_member (owner g x) (map (owner g) X) (Memᴰ.map (owner g) m))

  -- They are episodes with voices, those of an antichain of items have no ways, and they have at least as many voices as there are items.
  pub owned_episodes : All (Episode g) owned
  unfolding owned
  owned_episodes v m = passing_below among g.n m

  pub owned_voiced : All (λ x. x < item_count g) X → All (λ v. 1 ≤ g.voices v) owned
  owned_voiced items v m = let (x, n, e) = owned_item m in omega (arith, owner_voiced g x (items x n), ap g.voices e)

  pub owned_antichain : Antichain (ItemWay g) X → Antichain (Way g) owned
  unfolding owned
  owned_antichain anti = record { once = passing_nodup among g.n; apart = none }
    where
      none : {a b : ℕ} → Mem a owned → Mem b owned → (a ≡ b → ⊥) → Way g a b → ⊥
      none m n ne w =
          let (x, i, e) = owned_item m in
          let (y, j, f) = owned_item n in
          anti.apart i j (λ same. ne (sym e ∙ ap (owner g) same ∙ f)) (rw (e, f) w)

  pub owned_weight : All (λ x. x < item_count g) X → Nodup X → length X ≤ weight g owned
  unfolding owned
  owned_weight items once =
      let le : length X ≤ length (passing test (item_count g)) =
      nodup_le ℕ_discrete X (passing test (item_count g)) once
      (λ x m. test_passing test (item_count g) (items x m) (mem_member (owner g x) owned (item_owned (items x m) m))) in
      let same : length (passing test (item_count g)) ≡ weight g owned =
      items_weight g owned (passing_nodup among g.n) (λ v m. passing_below among g.n m) in
      omega arith
    where
      test : ℕ → Bool
      test x = member (owner g x) owned
