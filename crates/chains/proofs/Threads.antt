-- Laws of threads that hold the owners of the chains of some items, one for each.
use mathlib.Core.Path.{◌≡◌, refl, ap}
use mathlib.Core.Logic.{inl}
use mathlib.Core.List.Memᴰ.{head as here}
use mathlib.Core.List.Memᴰ.{tail as there}
use mathlib.Core.List.{List, [], ◌∷◌, ◌++◌, Memᴰ as Mem}
use Prim.Native.Nat.{ℕ, zero, suc, ◌<◌}
use native.Mathlib.Omega.{arith}
use lib.ListN.{length, get_or}
use Rattle.order.specs.Order.{All, Chain}
use Rattle.order.proofs.Lists.{all_nil, all_cons}
use Rattle.paths.specs.Graph.{Graph, Thread}
use Rattle.paths.specs.Items.{item_count, ItemWay}
use Rattle.paths.proofs.Items.{Filled}
use Rattle.searching.specs.Items.{stay}
use Rattle.chains.specs.Threads.{ThreadOf, ThreadsOf}
use Rattle.chains.proofs.Antichain.{ChainAt}

-- Chains of some items, one for each, and threads that they are filled to.
pub record FilledChains (g : Graph) (next : ℕ → ℕ) (vs : List ℕ) (ts : List (List ℕ)) : Type 0 where
  pub chains : List (List ℕ)
  pub are : All (Chain (ItemWay g)) chains
  pub filled : Filled g chains ts
  pub of : All (λ v. (c : List ℕ) × Mem c chains × ChainAt (item_count g) (ItemWay g) next v c) vs

-- threads that hold the chains of items
pub fill_chains : {g : Graph} {next : ℕ → ℕ} → ((v : ℕ) → v < item_count g → (c : List ℕ) × ChainAt (item_count g) (ItemWay g) next v c)
    → (vs : List ℕ) (ts : List (List ℕ)) → All (λ v. v < item_count g) vs → ThreadsOf g next vs ts → FilledChains g next vs ts
unfolding ThreadsOf Filled
fill_chains chain_of [] [] below h = record { chains = []; are = all_nil _; filled = tt; of = all_nil _ }
fill_chains chain_of [] (th ∷ ts) below h = absurd h
fill_chains chain_of (v ∷ vs) [] below h = absurd h
fill_chains {g} chain_of (v ∷ vs) (th ∷ ts) below h =
    let lv : v < item_count g = below v (here refl) in
    let r = fill_chains chain_of vs ts (λ x n. below x (there n)) h.1 in
    let (c, q) = chain_of v lv in
    record {
      chains = c ∷ r.chains;
      are = all_cons q.chain r.are;
      filled = (h.0.thread, λ x m. h.0.holds x (q.below x m) (q.steps x v m (q.holds v lv (inl stay))), r.filled);
      of = all_cons (c, here refl, q) (λ x n. let o = r.of x n in (o.0, there o.1, o.2));
    }

module _ (g : Graph) (next : ℕ → ℕ) where
  pub threads_none : ThreadsOf g next [] []
  unfolding ThreadsOf
  threads_none = tt

  pub threads_snoc : {v : ℕ} {th : List ℕ} (vs : List ℕ) (ts : List (List ℕ)) → ThreadsOf g next vs ts → ThreadOf g next v th
      → ThreadsOf g next (vs ++ (v ∷ [])) (ts ++ (th ∷ []))
  unfolding ThreadsOf
  threads_snoc [] [] h q = (q, tt)
  threads_snoc [] (th ∷ ts) h q = absurd h
  threads_snoc (v ∷ vs) [] h q = absurd h
  threads_snoc (v ∷ vs) (th ∷ ts) h q = (h.0, threads_snoc vs ts h.1 q)

  pub threads_length : (vs : List ℕ) (ts : List (List ℕ)) → ThreadsOf g next vs ts → length ts ≡ length vs
  unfolding ThreadsOf
  threads_length [] [] h = refl
  threads_length [] (th ∷ ts) h = absurd h
  threads_length (v ∷ vs) [] h = absurd h
  threads_length (v ∷ vs) (th ∷ ts) h = ap suc (threads_length vs ts h.1)

  pub threads_all : (vs : List ℕ) (ts : List (List ℕ)) → ThreadsOf g next vs ts → All (Thread g) ts
  unfolding ThreadsOf
  threads_all [] [] h = all_nil _
  threads_all [] (th ∷ ts) h = absurd h
  threads_all (v ∷ vs) [] h = absurd h
  threads_all (v ∷ vs) (th ∷ ts) h = all_cons h.0.thread (threads_all vs ts h.1)

  -- the thread at place `i` is that of the item there
  pub threads_at : (vs : List ℕ) (ts : List (List ℕ)) → ThreadsOf g next vs ts → (i : ℕ) → i < length vs
      → ThreadOf g next (get_or vs i 0) (get_or ts i [])
  unfolding ThreadsOf
  threads_at [] ts h i l = let none : ⊥ = omega arith in absurd none
  threads_at (v ∷ vs) [] h i l = absurd h
  threads_at (v ∷ vs) (th ∷ ts) h zero l = h.0
  threads_at (v ∷ vs) (th ∷ ts) h (suc i) l = threads_at vs ts h.1 i (omega arith)
