-- What follows from a solved graph: the apart set in the work words is the furthest one, and threads of the members of the antichain are a smallest
-- cover, as many for each member of the apart set as it has voices, in the members' order.
use Rattle.std.proofs.Math.Logic.{∥∥₁_elim}
use Rattle.std.proofs.Props.{props}
use mathlib.Core.Path.{◌≡◌, sym, ap, ap₂, subst, ◌∙◌}
use mathlib.Core.Bool.{true, ◌&&◌}
use mathlib.Core.List.{List, [], Memᴰ as Mem}
use Prim.Native.Nat.{ℕ, ◌+◌, ◌≤◌, ◌<◌}
use native.Mathlib.Omega.{arith}
use Rattle.std.proofs.lemmas.Bool.{ltb-true}
use lib.Dec.{ltb}
use lib.ListN.{length, get_or}
use Rattle.paths.specs.Graph.{Graph, Thread, Cover, weight, Smallest, Furthest}
use Rattle.paths.specs.Passing.{passing}
use Rattle.paths.specs.Items.{item_count, by_voices}
use Rattle.paths.proofs.Links.{both}
use Rattle.paths.proofs.Items.{first_passes, by_voices_length, owner_below, first_of}
use Rattle.paths.proofs.Passing.{passing_equal, passing_below, length_passing}
use Rattle.bits.specs.Work.{seen_at}
use Rattle.bits.proofs.Rows.{bit_lt}
use Rattle.searching.specs.Items.{member_test, members}
use Rattle.searching.specs.State.{tables}
use Rattle.chains.specs.Threads.{ThreadsOf}
use Rattle.chains.proofs.Reports as reports
use Rattle.chains.proofs.Reports.{apart_set}
use Rattle.items.specs.Listed.{voices_in, start_in, owner_in}
use Rattle.writing.specs.Writing.{Solved, IsSolved, apart_test, apart_in}
use Rattle.writing.proofs.Widths.{by_voices_same, width_below, width_le}

-- a member of the apart set has voices
pub test_voiced : (w : List ℕ) (v : ℕ) → apart_test w v ≡ true → 1 ≤ voices_in w v
test_voiced w v e = ltb-true 0 (voices_in w v) (both (ltb 0 (voices_in w v)) (member_test (tables w) (start_in w v)) e).0

-- by the graph's own figures
own : {g : Graph} {n m : ℕ} {w : List ℕ} → Solved g n m w → Solved g g.n (item_count g) w
own {g} {n} {m} {w} s =
    subst (λ (k : ℕ). Solved g k (item_count g) w) (sym s.count) (subst (λ (k : ℕ). Solved g n k w) (sym s.items) s)

module _ {g : Graph} {n m : ℕ} {w : List ℕ} (s : Solved g n m w) where
  bits : (b : ℕ) → b < item_count g → (tables w).seen b < 2
  bits b l = bit_lt w seen_at b

  same_set : apart_in w n ≡ apart_set g (tables w)
  same_set =
      passing_equal (apart_test w) (first_passes g (member_test (tables w))) n
      (λ v h. ap₂ (λ (a b : ℕ). ltb 0 a && member_test (tables w) b) (s.voices v h) (s.starts v h))
      ∙ ap (passing (first_passes g (member_test (tables w)))) (sym s.count)

  pub solved_furthest : Furthest g (apart_in w n)
  solved_furthest =
      rw same_set (reports.furthest (own s).acyclic (own s).matching (own s).pairs bits (own s).exhausted)

  -- the voices of the apart set are as many as the members of the antichain
  pub solved_weight : weight g (apart_in w n) ≡ length (members (tables w) m)
  solved_weight =
      rw (same_set, ← s.items) (reports.set_weight (own s).acyclic (own s).matching (own s).pairs bits (own s).exhausted)

  pub solved_width : length (by_voices (voices_in w) (apart_in w n)) ≡ length (members (tables w) m)
  solved_width =
      ap length
      (by_voices_same (voices_in w) g.voices (apart_in w n) (λ v k. s.voices v (passing_below (apart_test w) n k)))
      ∙ by_voices_length g (apart_in w n)
      ∙ solved_weight

  -- a thread and the apart set share at most one episode
  pub solved_short : (th : List ℕ) → Thread g th → length th + length (apart_in w n) ≤ n + 1
  solved_short th t =
      let h : length th + length (apart_set g (tables w)) ≤ g.n + 1 =
      reports.thread_short (own s).acyclic (own s).matching (own s).pairs bits (own s).exhausted th t in
      rw (same_set, ← s.count) h

  -- where the members of the antichain have the threads `ts`
  module _ (ts : List (List ℕ)) (threads : ThreadsOf g (tables w).next (members (tables w) m) ts) where
    here : ThreadsOf g (tables w).next (members (tables w) (item_count g)) ts
    here = rw s.items threads

    pub solved_same : length ts ≡ weight g (apart_in w n)
    solved_same =
        rw same_set (reports.same_length (own s).acyclic (own s).matching (own s).pairs bits (own s).exhausted ts here)

    pub solved_cover : Cover g ts
    solved_cover = reports.cover (own s).acyclic (own s).matching (own s).pairs bits (own s).exhausted ts here

    pub solved_smallest : Smallest g ts
    solved_smallest = reports.smallest (own s).acyclic (own s).matching (own s).pairs bits (own s).exhausted ts here

    pub solved_holds : (i : ℕ) → i < length ts → Mem (get_or (by_voices g.voices (apart_in w n)) i 0) (get_or ts i [])
    solved_holds =
        rw same_set (reports.holds (own s).acyclic (own s).matching (own s).pairs bits (own s).exhausted ts here)

    pub solved_alone : (i v : ℕ) → i < length ts → Mem v (apart_in w n) → Mem v (get_or ts i [])
        → v ≡ get_or (by_voices g.voices (apart_in w n)) i 0
    solved_alone =
        rw same_set (reports.alone (own s).acyclic (own s).matching (own s).pairs bits (own s).exhausted ts here)

  -- an item's owner is an episode
  owner_lt_of : (x : ℕ) → x < m → owner_in w x < n
  owner_lt_of x h =
      let l : x < item_count g = rw s.items h in
      let e = s.owners x h in
      let c = s.count in
      omega (arith, owner_below g x l)

  -- the items of an episode with voices start at one
  start_lt_of : (v : ℕ) → v < n → 1 ≤ voices_in w v → start_in w v < m
  start_lt_of v h one =
      let l : v < g.n = rw s.count h in
      let voiced : 1 ≤ g.voices v = rw (← s.voices v h) one in
      let e = s.starts v h in
      let i = s.items in
      omega (arith, (first_of g v l voiced).0)

-- of a graph that is not named
module _ {n m : ℕ} {w : List ℕ} (solved : IsSolved n m w) where
  pub owner_lt : (x : ℕ) → x < m → owner_in w x < n
  owner_lt x h = ∥∥₁_elim solved (search props) (λ (g, s). owner_lt_of s x h)

  pub start_lt : (v : ℕ) → v < n → 1 ≤ voices_in w v → start_in w v < m
  start_lt v h one = ∥∥₁_elim solved (search props) (λ (g, s). start_lt_of s v h one)

  -- the width as it is counted is at most the number of items
  pub width_few : (v : ℕ) → v ≤ n → width_below (voices_in w) (apart_test w) v ≤ m
  width_few v h =
      ∥∥₁_elim solved (search props)
      (λ (g, s).
      omega (arith, width_le (voices_in w) (apart_test w) v n h, solved_width s, length_passing (member_test (tables w)) m))
