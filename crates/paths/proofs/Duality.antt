-- Duality: an apart set has at most as many voices as a cover has threads, since each thread holds at most one member and as many threads as its
-- voices pass each member; and an acyclic graph has the two of equal number. These come from chains of items and an antichain of items.
use mathlib.Core.Path.{◌≡◌, ◌∙◌}
use mathlib.Core.Logic.{◌↔◌}
use mathlib.Core.List.{List, Memᴰ as Mem}
use Prim.Native.Nat.{ℕ, ◌≤◌, ◌<◌}
use native.Mathlib.Decide.{ℕ_discrete}
use native.Mathlib.Omega.{arith}
use lib.ListN.{length}
use Rattle.order.specs.Order.{All, On, HoldsOne, Chain, Antichain, Dilworth}
use Rattle.order.proofs.Chains.{on_one_chain}
use Rattle.order.proofs.Dilworth.{dilworth}
use Rattle.paths.specs.Graph.{Graph, EndsBelow, Way, Acyclic, Thread, Cover, Apart, Smallest, Heaviest, passing_threads, weight}
use Rattle.paths.specs.Items.{item_count, owner, ItemWay}
use Rattle.paths.proofs.Ways.{way_trans, dec_way}
use Rattle.paths.proofs.Threads.{thread_chain}
use Rattle.paths.proofs.Numbers.{below, below_lt, lt_below}
use Rattle.paths.proofs.Counting.{held, held_one, held_some, crossings, crossings_le, crossings_full, weight_crossings, weight_full}
use Rattle.paths.proofs.Items.{
  item_order,
  Filled,
  filled_enough,
  filled_threads,
  fill,
  owned,
  owned_episodes,
  owned_voiced,
  owned_antichain,
  owned_weight,
}

-- a cover and an apart set of equal number
pub record Certificate (g : Graph) : Type 0 where
  pub threads : List (List ℕ)
  pub apart : List ℕ
  pub is_cover : Cover g threads
  pub is_apart : Apart g apart
  pub same : length threads ≡ weight g apart

module _ {g : Graph} where
  -- a thread holds at most one of some episodes of which none has a way to another
  one_on : {t s : List ℕ} → Thread g t → Antichain (Way g) s → (x y : ℕ) → Mem x s → Mem y s → Mem x t → Mem y t → x ≡ y
  one_on thread anti x y xs ys xt yt = on_one_chain way_trans ℕ_discrete (thread_chain thread) anti xs ys xt yt

  thread_holds : {t s : List ℕ} → Thread g t → Antichain (Way g) s → held t s ≤ 1
  thread_holds {t} {s} thread anti = held_one t s anti.once (one_on thread anti)

  -- episodes of which none has a way to another have at most as many voices as there are threads, where enough threads pass each of them
  pub passed_weight : (ts : List (List ℕ)) (s : List ℕ) → All (Thread g) ts → Antichain (Way g) s
      → All (λ v. g.voices v ≤ passing_threads v ts) s → weight g s ≤ length ts
  passed_weight ts s threads anti enough =
      let le : weight g s ≤ crossings ts s = weight_crossings g ts s enough in
      let few : crossings ts s ≤ length ts = crossings_le ts s (λ t m. thread_holds (threads t m) anti) in
      omega arith

  pub weak_duality : (ts : List (List ℕ)) (s : List ℕ) → Cover g ts → Apart g s → weight g s ≤ length ts
  weak_duality ts s cover apart = passed_weight ts s cover.threads apart.antichain (λ v m. cover.enough v (apart.episodes v m))

  pub holds_one : (ts : List (List ℕ)) (s : List ℕ) → Cover g ts → Apart g s → length ts ≡ weight g s → All (HoldsOne s) ts
  holds_one ts s cover apart same t m =
      let le : weight g s ≤ crossings ts s = weight_crossings g ts s (λ v n. cover.enough v (apart.episodes v n)) in
      let full : All (λ u. 1 ≤ held u s) ts =
      crossings_full ts s (λ u n. thread_holds (cover.threads u n) apart.antichain) (omega arith) in
      let (x, xs, xt) = held_some t s (full t m) in
      (x, xs, xt, λ y ys yt. one_on (cover.threads t m) apart.antichain y x ys xs yt xt)

  pub as_many_threads : (ts : List (List ℕ)) (s : List ℕ) → Cover g ts → Apart g s → length ts ≡ weight g s → (v : ℕ) → Mem v s
      → passing_threads v ts ≡ g.voices v
  as_many_threads ts s cover apart same =
      let few : crossings ts s ≤ length ts = crossings_le ts s (λ t m. thread_holds (cover.threads t m) apart.antichain) in
      weight_full g ts s (λ v m. cover.enough v (apart.episodes v m)) (omega arith)

  -- where the numbers are equal, neither can be improved
  pub equal_smallest : (ts : List (List ℕ)) (s : List ℕ) → Apart g s → length ts ≡ weight g s → Smallest g ts
  equal_smallest ts s apart same us cover = let h : weight g s ≤ length us = weak_duality us s cover apart in omega arith

  pub equal_heaviest : (ts : List (List ℕ)) (s : List ℕ) → Cover g ts → length ts ≡ weight g s → Heaviest g s
  equal_heaviest ts s cover same r apart = let h : weight g r ≤ length ts = weak_duality ts r cover apart in omega arith

  -- where every item is on one of some chains, the threads that they are filled to are a cover
  pub filled_cover : Acyclic g → (cs ts : List (List ℕ)) → All (Chain (ItemWay g)) cs → ((x : ℕ) → x < item_count g → On cs x)
      → Filled g cs ts → Cover g ts
  filled_cover acyclic cs ts chains on filled =
      record { threads = filled_threads g cs ts filled; enough = filled_enough g acyclic cs ts chains on filled }

  -- Dilworth's theorem for the items of an acyclic graph, its chains filled in
  pub certificate : EndsBelow g → Acyclic g → Certificate g
  certificate ends acyclic =
      record { threads = filled.0; apart = owned g parts.antichain; is_cover = is_cover; is_apart = is_apart; same = same }
    where
      items : ℕ
      items = item_count g

      parts : Dilworth (ItemWay g) (below items)
      parts = dilworth ℕ_discrete (λ x y. dec_way g ends (owner g x) (owner g y)) (item_order g acyclic) (below items)

      filled : (ts : List (List ℕ)) × Filled g parts.chains ts × (length ts ≡ length parts.chains)
      filled = fill g ends parts.chains parts.partition.chains (λ c m x n. below_lt items x (parts.partition.within c m x n))

      is_cover : Cover g filled.0
      is_cover =
          filled_cover acyclic parts.chains filled.0 parts.partition.chains (λ x h. parts.partition.covered x (lt_below items h)) filled.1

      inside : All (λ x. x < items) parts.antichain
      inside x m = below_lt items x (parts.within x m)

      is_apart : Apart g (owned g parts.antichain)
      is_apart =
          record {
            episodes = owned_episodes g parts.antichain;
            voiced = λ v m. omega (arith, owned_voiced g parts.antichain inside v m);
            antichain = owned_antichain g parts.antichain parts.is_antichain;
          }

      same : length filled.0 ≡ weight g (owned g parts.antichain)
      same =
          let many : length parts.antichain ≤ weight g (owned g parts.antichain) = owned_weight g parts.antichain inside parts.is_antichain.once in
          let weak : weight g (owned g parts.antichain) ≤ length filled.0 = weak_duality filled.0 (owned g parts.antichain) is_cover is_apart in
          let size : length filled.0 ≡ length parts.antichain = filled.2 ∙ parts.same in
          omega arith

  pub duality : EndsBelow g → Acyclic g → (ts : List (List ℕ)) (s : List ℕ) → Cover g ts → Apart g s
      → (length ts ≡ weight g s) ↔ (Smallest g ts × Heaviest g s)
  duality ends acyclic ts s cover apart = (λ same. (equal_smallest ts s apart same, equal_heaviest ts s cover same), back)
    where
      back : Smallest g ts × Heaviest g s → length ts ≡ weight g s
      back (smallest, heaviest) =
          let c = certificate ends acyclic in
          let few : length ts ≤ length c.threads = smallest c.threads c.is_cover in
          let many : weight g c.apart ≤ weight g s = heaviest c.apart c.is_apart in
          let weak : weight g s ≤ length ts = weak_duality ts s cover apart in
          let same : length c.threads ≡ weight g c.apart = c.same in
          omega arith
