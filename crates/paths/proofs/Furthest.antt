-- One furthest: of two furthest apart sets each member of one is in the other, since a way there and a way back would join two
-- members of one set. And how a heaviest apart set is shown to be furthest.
use mathlib.Core.Path.{◌≡◌, sym, subst}
use mathlib.Core.Logic.{◌⊎◌, inl, inr, ⊎_elim}
use mathlib.Core.List.Memᴰ
use mathlib.Core.List.{List, Memᴰ as Mem}
use Prim.Native.Nat.{ℕ, ◌≤◌, ◌<◌}
use native.Mathlib.Decide.{ℕ_discrete}
use native.Mathlib.Omega.{arith}
use lib.ListN.{length}
use Rattle.order.specs.Order.{All}
use Rattle.order.proofs.Lists.{find, dec_mem}
use Rattle.paths.specs.Graph.{Graph, Episode, EndsBelow, Way, Acyclic, Thread, Apart, Heaviest, Along, Furthest, Rising, passing_threads, weight}
use Rattle.paths.proofs.Ways.{way_trans, dec_way}
use Rattle.paths.proofs.Duality.{passed_weight}
use Rattle.paths.proofs.Numbers.{rising_equal}

module _ {g : Graph} (acyclic : Acyclic g) where
  -- no way joins two members of an apart set, equal or not
  pub apart_no_way : {s : List ℕ} {a b : ℕ} → Apart g s → Mem a s → Mem b s → Way g a b → ⊥
  apart_no_way {a = a} {b = b} apart m n w = go (ℕ_discrete a b)
    where
      go : Dec (a ≡ b) → ⊥
      go (yes e) = acyclic b (subst (λ (x : ℕ). Way g x b) e w)
      go (no ne) = apart.antichain.apart m n ne w

  -- of two apart sets, each at least as far along as the other, each member of one is in the other
  pub along_members : {s r : List ℕ} → Apart g s → Along g r s → Along g s r → All (λ v. Mem v r) s
  along_members {s} {r} apart rs sr b m = go (rs b m)
    where
      go : Mem b r ⊎ ((a : ℕ) × Mem a r × Way g a b) → Mem b r
      go (inl n) = n
      go (inr (a, n, w)) = absurd (back (sr a n))
        where
          back : Mem a s ⊎ ((c : ℕ) × Mem c s × Way g c a) → ⊥
          back (inl q) = apart_no_way apart q m w
          back (inr (c, q, v)) = apart_no_way apart q m (way_trans c a b v w)

  pub furthest_unique : (s r : List ℕ) → Furthest g s → Furthest g r → Rising s → Rising r → s ≡ r
  furthest_unique s r fs fr rs rr =
      let r-s : Along g r s = fs.along r fr.apart fr.heaviest in
      let s-r : Along g s r = fr.along s fs.apart fs.heaviest in
      rising_equal s r rs rr (along_members fs.apart r-s s-r) (along_members fr.apart s-r r-s)

-- Fewer threads than `s` has voices, of which enough pass every episode but `b` and those with a way to `b`.
pub record Behind (g : Graph) (s : List ℕ) (b : ℕ) : Type 0 where
  pub threads : List (List ℕ)
  pub are_threads : All (Thread g) threads
  pub fewer : length threads < weight g s
  pub enough : (v : ℕ) → Episode g v → (v ≡ b) ⊎ (Way g v b ⊎ (g.voices v ≤ passing_threads v threads))

-- Where that is so for each member, a heaviest apart set is furthest: another with neither `b` nor an episode that has a way to `b`
-- is too light.
pub furthest_by_threads : {g : Graph} {s : List ℕ} → EndsBelow g → Apart g s → Heaviest g s → All (Behind g s) s → Furthest g s
furthest_by_threads {g} {s} ends apart heaviest behind = record { apart = apart; heaviest = heaviest; along = along }
  where
    along : (r : List ℕ) → Apart g r → Heaviest g r → Along g r s
    along r other most b m = go (dec_mem ℕ_discrete b r) (find (λ a. dec_way g ends a b) r)
      where
        Before : Type 0
        Before = (a : ℕ) × Mem a r × Way g a b

        go : Dec (Mem b r) → Before ⊎ All (λ a. Way g a b → ⊥) r → Mem b r ⊎ Before
        go (yes n) o = inl n
        go (no nb) (inl a) = inr a
        go (no nb) (inr none) =
            let q = behind b m in
            let few : length q.threads < weight g s = q.fewer in
            let many : weight g s ≤ weight g r = most s apart in
            let weak : weight g r ≤ length q.threads = passed_weight q.threads r q.are_threads other.antichain passed in
            let too_many : ⊥ = omega arith in
            absurd too_many
          where
            passed : All (λ v. g.voices v ≤ passing_threads v (behind b m).threads) r
            passed v n =
                ⊎_elim (λ e. absurd (nb (Memᴰ.cast (sym e) n))) (⊎_elim (λ w. absurd (none v n w)) (λ o. o))
                ((behind b m).enough v (other.episodes v n))
