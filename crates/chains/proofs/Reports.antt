-- What the threads and the members of an exhausted search over the items of an acyclic graph are: a smallest cover and the furthest
-- apart set, as many threads for each member as it has voices, in the members' order.
use mathlib.Core.Path.{◌≡◌, sym, ap, subst, ◌∙◌}
use mathlib.Core.Bool.{true}
use mathlib.Core.Logic.{◌⊎◌, inl, inr, ◌≢◌}
use mathlib.Core.List.Memᴰ
use mathlib.Core.List.{List, [], map, Memᴰ as Mem}
use Prim.Native.Nat.{ℕ, ◌+◌, ◌≤◌, ◌<◌}
use native.Mathlib.Decide.{ℕ_discrete}
use native.Mathlib.Omega.{arith}
use lib.Dec.{ltb}
use lib.ListN.{length, length-map, get_or}
use Rattle.std.proofs.lemmas.Bool.{ltb-true}
use Rattle.std.proofs.lemmas.List.{get_or-map}
use Rattle.std.proofs.Common.{lt-ltb}
use Rattle.std.specs.Cmp.Derive.{both_true}
use Rattle.order.specs.Order.{All, On, Antichain}
use Rattle.order.proofs.Lists.{get_d_mem}
use Rattle.order.proofs.Chains.{on_one_chain}
use Rattle.paths.specs.Graph.{Graph, Way, Acyclic, Thread, member, Cover, Apart, weight, Smallest, Heaviest, Along, Furthest}
use Rattle.paths.specs.Items.{item_count, owner, first_item, ItemWay, by_voices}
use Rattle.paths.specs.Passing.{passing}
use Rattle.paths.proofs.Ways.{way_trans}
use Rattle.paths.proofs.Threads.{thread_chain}
use Rattle.paths.proofs.Fits.{thread_apart_le}
use Rattle.paths.proofs.Duality.{equal_smallest}
use Rattle.paths.proofs.Links.{both}
use Rattle.paths.proofs.Counting.{member_mem}
use Rattle.paths.proofs.Items.{first_passes, by_voices_length, owner_below, owner_voiced, first_of, passing_owners, items_weight, item_order, filled_enough}
use Rattle.paths.proofs.Passing.{passing_below, passing_test, test_passing, passing_nodup}
use Rattle.searching.specs.Items.{Tables, Matching, stay, Exhausted, member_test, members}
use Rattle.chains.specs.Threads.{ThreadsOf}
use Rattle.chains.proofs.Antichain as Antichain
use Rattle.chains.proofs.Threads.{threads_length, threads_all, threads_at, FilledChains, fill_chains}
use Rattle.chains.proofs.Together.{same_test}

-- the episodes with voices of which the first item is a member of the antichain, rising
abbrev pub apart_set : Graph → Tables → List ℕ
apart_set g t = passing (first_passes g (member_test t)) g.n

-- the items of some episodes
abbrev items_of : Graph → List ℕ → List ℕ
items_of g r = passing (λ x. member (owner g x) r) (item_count g)

-- one of them has its owner among the episodes
owner_of : (g : Graph) (r : List ℕ) {x : ℕ} → Mem x (items_of g r) → Mem (owner g x) r
owner_of g r {x} m = member_mem (owner g x) r (passing_test (λ x. member (owner g x) r) (item_count g) m)

items_below : (g : Graph) (r : List ℕ) → All (λ x. x < item_count g) (items_of g r)
items_below g r x m = passing_below (λ x. member (owner g x) r) (item_count g) m

-- those of an apart set are an antichain of items
items_apart : {g : Graph} → Acyclic g → (r : List ℕ) → Apart g r → Antichain (ItemWay g) (items_of g r)
items_apart {g} acyclic r apart =
    record {
      once = passing_nodup (λ x. member (owner g x) r) (item_count g);
      apart = λ {a} {b} p q ne way.
          apart.antichain.apart (owner_of g r p) (owner_of g r q)
          (λ e. acyclic (owner g b) (subst (λ (v : ℕ). Way g v (owner g b)) e way)) way;
    }

module _
    {g : Graph}
    {t : Tables}
    (acyclic : Acyclic g)
    (matching : Matching (item_count g) t)
    (pairs : (x y : ℕ) → x < item_count g → y < item_count g → t.next x ≡ y + 1 → ItemWay g x y)
    (bits : (b : ℕ) → b < item_count g → t.seen b < 2)
    (exhausted : Exhausted (item_count g) (ItemWay g) t) where
  -- a member of the apart set has voices
  set_voiced : {v : ℕ} → Mem v (apart_set g t) → 1 ≤ g.voices v
  set_voiced {v} m =
      ltb-true 0 (g.voices v) (both (ltb 0 (g.voices v)) (member_test t (first_item g v)) (passing_test (first_passes g (member_test t)) g.n m)).0

  -- its first item is an item of its own
  set_item : {v : ℕ} → Mem v (apart_set g t) → (first_item g v < item_count g) × (owner g (first_item g v) ≡ v)
  set_item {v} m = first_of g v (passing_below (first_passes g (member_test t)) g.n m) (set_voiced m)

  -- and a member of the antichain
  set_first : {v : ℕ} → Mem v (apart_set g t) → Mem (first_item g v) (members t (item_count g))
  set_first {v} m =
      test_passing (member_test t) (item_count g) (set_item m).0
      (both (ltb 0 (g.voices v)) (member_test t (first_item g v)) (passing_test (first_passes g (member_test t)) g.n m)).1

  -- the owner of a member of the antichain is a member of the apart set
  owner_apart : {x : ℕ} → Mem x (members t (item_count g)) → Mem (owner g x) (apart_set g t)
  owner_apart {x} m =
      let lx : x < item_count g = passing_below (member_test t) (item_count g) m in
      let voiced : 1 ≤ g.voices (owner g x) = owner_voiced g x lx in
      let below : owner g x < g.n = owner_below g x lx in
      let first = first_of g (owner g x) below voiced in
      let same : member_test t (first_item g (owner g x)) ≡ true =
      same_test exhausted acyclic matching pairs bits (first_item g (owner g x)) x first.0 lx first.1 ∙ passing_test (member_test t) (item_count g) m in
      test_passing (first_passes g (member_test t)) g.n below
      (both_true (lt-ltb 0 (g.voices (owner g x)) voiced) same)

  pub apart : Apart g (apart_set g t)
  apart =
      record {
        episodes = λ v m. passing_below (first_passes g (member_test t)) g.n m;
        voiced = λ v m. set_voiced m;
        antichain = record { once = passing_nodup (first_passes g (member_test t)) g.n; apart = two };
      }
    where
      two : {a b : ℕ} → Mem a (apart_set g t) → Mem b (apart_set g t) → a ≢ b → Way g a b → ⊥
      two {a} {b} p q ne way =
          let e : owner g (first_item g a) ≡ a = (set_item p).1 in
          let f : owner g (first_item g b) ≡ b = (set_item q).1 in
          let items : ItemWay g (first_item g a) (first_item g b) =
          subst (λ (u : ℕ). Way g u (owner g (first_item g b))) (sym e) (subst (λ (u : ℕ). Way g a u) (sym f) way) in
          (Antichain.members_apart (item_order g acyclic) matching pairs bits exhausted).apart (set_first p) (set_first q)
          (λ k. ne (sym e ∙ ap (owner g) k ∙ f)) items

  -- the owners of the members of the antichain are those of the apart set, each as often as it has voices
  member_owners : map (owner g) (members t (item_count g)) ≡ by_voices g.voices (apart_set g t)
  member_owners = passing_owners g (member_test t) (same_test exhausted acyclic matching pairs bits)

  pub set_weight : weight g (apart_set g t) ≡ length (members t (item_count g))
  set_weight =
      sym (by_voices_length g (apart_set g t)) ∙ ap length (sym member_owners) ∙ length-map (members t (item_count g)) (owner g)

  -- no set of items of different episodes is larger
  pub heaviest : Heaviest g (apart_set g t)
  heaviest r other =
      let le : length (items_of g r) ≤ length (members t (item_count g)) =
      Antichain.length_le (item_order g acyclic) matching pairs bits exhausted (items_of g r) (items_apart acyclic r other) (items_below g r) in
      let e : length (items_of g r) ≡ weight g r = items_weight g r other.antichain.once other.episodes in
      let f = set_weight in
      omega arith

  pub furthest : Furthest g (apart_set g t)
  furthest = record { apart = apart; heaviest = heaviest; along = along }
    where
      along : (r : List ℕ) → Apart g r → Heaviest g r → Along g r (apart_set g t)
      along r other most b m = owners (far (first_item g b) (set_first m))
        where
          same : length (items_of g r) ≡ length (members t (item_count g))
          same =
              let le : weight g r ≤ weight g (apart_set g t) = heaviest r other in
              let ge : weight g (apart_set g t) ≤ weight g r = most (apart_set g t) apart in
              let e : length (items_of g r) ≡ weight g r = items_weight g r other.antichain.once other.episodes in
              let f = set_weight in
              omega arith

          far : All (λ y. Mem y (items_of g r) ⊎ ((x : ℕ) × Mem x (items_of g r) × ItemWay g x y)) (members t (item_count g))
          far =
              Antichain.furthest (item_order g acyclic) matching pairs bits exhausted (items_of g r) (items_apart acyclic r other)
              (items_below g r) same

          -- from items to their owners
          owners : Mem (first_item g b) (items_of g r) ⊎ ((x : ℕ) × Mem x (items_of g r) × ItemWay g x (first_item g b))
              → Mem b r ⊎ ((a : ℕ) × Mem a r × Way g a b)
          owners (inl i) = inl (Memᴰ.cast (sym (set_item m).1) (owner_of g r i))
          owners (inr (x, i, way)) = inr (owner g x, owner_of g r i, subst (λ (u : ℕ). Way g (owner g x) u) (set_item m).1 way)

  -- a thread and the apart set share at most one episode
  pub thread_short : (th : List ℕ) → Thread g th → length th + length (apart_set g t) ≤ g.n + 1
  thread_short th thread = thread_apart_le acyclic th (apart_set g t) thread apart

  -- where the members of the antichain have the threads `ts`
  module _ (ts : List (List ℕ)) (threads : ThreadsOf g t.next (members t (item_count g)) ts) where
    pub same_length : length ts ≡ weight g (apart_set g t)
    same_length = threads_length g t.next (members t (item_count g)) ts threads ∙ sym set_weight

    -- their chains, filled to the threads
    filled : FilledChains g t.next (members t (item_count g)) ts
    filled =
        fill_chains (Antichain.chain_at (item_order g acyclic) matching pairs) (members t (item_count g)) ts
        (λ x m. passing_below (member_test t) (item_count g) m) threads

    pub cover : Cover g ts
    cover =
        record {
          threads = threads_all g t.next (members t (item_count g)) ts threads;
          enough = filled_enough g acyclic filled.chains ts filled.are on_chains filled.filled;
        }
      where
        on_chains : (x : ℕ) → x < item_count g → On filled.chains x
        on_chains x h =
            let p = Antichain.on_a_chain (item_order g acyclic) matching pairs bits exhausted x h in
            let c = filled.of p.0 p.1 in
            (c.0, c.1, c.2.holds x h p.2)

    pub smallest : Smallest g ts
    smallest = equal_smallest ts (apart_set g t) apart same_length

    -- the member at a place has its owner there
    place : (i : ℕ) → i < length ts → (get_or (by_voices g.voices (apart_set g t)) i 0 ≡ owner g (get_or (members t (item_count g)) i 0))
        × (i < length (members t (item_count g)))
    place i h =
        let l : i < length (members t (item_count g)) = let e = threads_length g t.next (members t (item_count g)) ts threads in omega arith in
        (rw (← member_owners) (get_or-map (owner g) (members t (item_count g)) i 0 0 l), l)

    -- the thread at a place holds the member at that place, each member as often as it has voices
    pub holds : (i : ℕ) → i < length ts → Mem (get_or (by_voices g.voices (apart_set g t)) i 0) (get_or ts i [])
    holds i h =
        let p = place i h in
        let m = get_d_mem (members t (item_count g)) i 0 p.1 in
        Memᴰ.cast p.0
        ((threads_at g t.next (members t (item_count g)) ts threads i p.1).holds (get_or (members t (item_count g)) i 0)
        (passing_below (member_test t) (item_count g) m) (inl stay))

    -- and no other
    pub alone : (i v : ℕ) → i < length ts → Mem v (apart_set g t) → Mem v (get_or ts i []) → v ≡ get_or (by_voices g.voices (apart_set g t)) i 0
    alone i v h m on =
        let p = place i h in
        let here : Mem (get_or (by_voices g.voices (apart_set g t)) i 0) (apart_set g t) =
        Memᴰ.cast p.0 (owner_apart (get_d_mem (members t (item_count g)) i 0 p.1)) in
        on_one_chain way_trans ℕ_discrete (thread_chain (threads_at g t.next (members t (item_count g)) ts threads i p.1).thread)
        apart.antichain m here on (holds i h)
