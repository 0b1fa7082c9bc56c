-- Threads and chains of ways: a thread is one, and one becomes a thread that holds its episodes when each way is filled in.
use mathlib.Core.Path.{refl}
use mathlib.Core.List.Memᴰ.{head as here}
use mathlib.Core.List.Memᴰ.{tail as there}
use mathlib.Core.List.{
  List,
  [],
  ◌∷◌,
  Memᴰ as Mem,
}
use Prim.Native.Nat.{ℕ}
use Rattle.order.specs.Order.{All, Chain, single, more}
use Rattle.order.proofs.Lists.{all_nil, all_cons}
use Rattle.order.proofs.Chains.{chain_map}
use Rattle.paths.specs.Graph.{Graph, Episode, Link, EndsBelow, Way, one, step, Thread}

module _ {g : Graph} where
  pub thread_chain : {t : List ℕ} → Thread g t → Chain (Way g) t
  thread_chain t = chain_map (λ a b. one) t.path

  pub thread_single : {a : ℕ} → Episode g a → Thread g (a ∷ [])
  thread_single h = record { episodes = all_cons h (all_nil _); path = single }

  pub thread_cons : {a b : ℕ} {t : List ℕ} → Episode g a → Link g a b → Thread g (b ∷ t) → Thread g (a ∷ b ∷ t)
  thread_cons h l t = record { episodes = all_cons h t.episodes; path = more l t.path }

  module _ (ends : EndsBelow g) where
    -- a way in front of a thread
    pub way_thread : {a b : ℕ} {t : List ℕ} → Way g a b → Thread g (b ∷ t)
        → (m : List ℕ) × Thread g (a ∷ m) × All (λ v. Mem v m) (b ∷ t)
    way_thread {a} {b} {t} (one l) th = (b ∷ t, thread_cons (ends a b l).0 l th, λ v m. m)
    way_thread (step {a = a} {b = b} l w) th =
        let r = way_thread w th in
        (b ∷ r.0, thread_cons (ends a b l).0 l r.1, λ v m. there (r.2 v m))

    -- a chain of ways becomes a thread that starts with the same episode and holds them all
    pub chain_thread : {a : ℕ} {l : List ℕ} → Chain (Way g) (a ∷ l) → All (Episode g) (a ∷ l)
        → (m : List ℕ) × Thread g (a ∷ m) × All (λ v. Mem v (a ∷ m)) (a ∷ l)
    chain_thread {a} single h = ([], thread_single (h a (here refl)), λ v m. m)
    chain_thread {a} (more w c) h =
        let r = chain_thread c (λ v m. h v (there m)) in
        let s = way_thread w r.1 in
        (s.0, s.1, all_cons (here refl) (λ v m. there (s.2 v (r.2 v m))))
