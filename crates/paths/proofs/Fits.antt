-- Every report fits: a thread and an apart set share at most one episode, so a thread of c episodes and s members give c + s ≤ n + 1, and k threads
-- have at most k × (n + 1 - s) steps.
use mathlib.Core.Path.{◌≡◌, refl, subst}
use mathlib.Core.Logic.{⊎_elim}
use mathlib.Core.List.Memᴰ.{append_cases}
use mathlib.Core.List.Memᴰ.{head as here}
use mathlib.Core.List.Memᴰ.{tail as there}
use mathlib.Core.List.{
  List,
  [],
  ◌∷◌,
  ◌++◌,
  Nodup,
}
use Prim.Native.Nat.{ℕ, suc, zero-le, ◌+◌, ◌-◌, ◌*◌, ◌/◌, ◌≤◌, ◌<◌}
use native.Mathlib.Decide.{ℕ_discrete, dec_le}
use native.Mathlib.Nat.{mul-add, add-mul, mul_comm, add_comm, suc-mul, mul-le-mul_right}
use native.Mathlib.Omega.{arith}
use lib.ListN.{length, length-append}
use Rattle.order.specs.Order.{All}
use Rattle.order.proofs.Lists.{nodup_append, without, without_mem, length_without_one}
use Rattle.order.proofs.Chains.{antichain_without, on_one_chain, chain_nodup}
use Rattle.paths.specs.Graph.{Graph, Episode, Acyclic, Thread, Cover, Apart, weight, total_steps}
use Rattle.paths.specs.OneVoice.{OneVoice}
use Rattle.paths.proofs.Ways.{way_trans, way_order}
use Rattle.paths.proofs.Threads.{thread_chain}
use Rattle.paths.proofs.Numbers.{nodup_below}
use Rattle.paths.proofs.OneVoice.{one_weight}

-- 4ab ≤ (a + b)², with b written as a + d
square_le : (a d : ℕ) → 4 * (a * (a + d)) ≤ (a + (a + d)) * (a + (a + d))
square_le a d =
    omega (
      arith,
      mul-add a a d,
      add-mul a (a + d) (a + (a + d)),
      mul-add a a (a + d),
      mul-add (a + d) a (a + d),
      mul_comm (a + d) a,
      add-mul a d (a + d),
      mul-add d a d,
      mul_comm d a,
    )

-- 4ab ≤ (a + b)², for a ≤ b
ordered_le : (a b : ℕ) → a ≤ b → 4 * (a * b) ≤ (a + b) * (a + b)
ordered_le a b h =
    let e : a + (b - a) ≡ b = omega arith in
    subst (λ (x : ℕ). 4 * (a * x) ≤ (a + x) * (a + x)) e (square_le a (b - a))

-- 4ab ≤ (a + b)²
four_le : (a b : ℕ) → 4 * (a * b) ≤ (a + b) * (a + b)
four_le a b = go (dec_le a b)
  where
    go : Dec (a ≤ b) → 4 * (a * b) ≤ (a + b) * (a + b)
    go (yes h) = ordered_le a b h
    go (no h) = rw (mul_comm a b, add_comm a b) (ordered_le b a (omega arith))

-- k × (m - k) is at most the quarter of m × m, rounded down
pub product_le : (k m : ℕ) → k ≤ m → k * (m - k) ≤ m * m / 4
product_le k m h =
    let e : k + (m - k) ≡ m = omega arith in
    let f : 4 * (k * (m - k)) ≤ m * m = subst (λ (x : ℕ). 4 * (k * (m - k)) ≤ x * x) e (four_le k (m - k)) in
    omega arith

-- threads of at most `c` steps have at most `c` for each
total_le : (c : ℕ) (ts : List (List ℕ)) → All (λ t. length t ≤ c) ts → total_steps ts ≤ length ts * c
unfolding total_steps
total_le c [] h = zero-le
total_le c (t ∷ ts) h =
    let first : length t ≤ c = h t (here refl) in
    let rest : total_steps ts ≤ length ts * c = total_le c ts (λ u m. h u (there m)) in
    rw (suc-mul (length ts) c) (omega arith)

-- episodes of at most two voices have at most two for each
pub weight_few : (g : Graph) (s : List ℕ) → ((v : ℕ) → Episode g v → g.voices v ≤ 2) → All (Episode g) s → weight g s ≤ length s + length s
unfolding weight
weight_few g [] few h = zero-le
weight_few g (v ∷ s) few h = omega (arith, few v (h v (here refl)), weight_few g s few (λ x m. h x (there m)))

-- with a voice or more each, episodes have at least as many voices as they are
pub weight_some : (g : Graph) (s : List ℕ) → All (λ v. 1 ≤ g.voices v) s → length s ≤ weight g s
unfolding weight
weight_some g [] h = zero-le
weight_some g (v ∷ s) h = omega (arith, h v (here refl), weight_some g s (λ x m. h x (there m)))

module _ {g : Graph} (acyclic : Acyclic g) where
  -- the episodes of a thread are all different
  pub thread_nodup : {t : List ℕ} → Thread g t → Nodup t
  thread_nodup t = chain_nodup (way_order acyclic) (thread_chain t)

  pub thread_apart_le : (t s : List ℕ) → Thread g t → Apart g s → length t + length s ≤ g.n + 1
  thread_apart_le t s thread apart =
      let shared : length s ≤ suc (length others) =
      length_without_one ℕ_discrete t s apart.antichain.once
      (λ x y xs ys xt yt. on_one_chain way_trans ℕ_discrete (thread_chain thread) apart.antichain xs ys xt yt) in
      let all : length (t ++ others) ≤ g.n = nodup_below g.n (t ++ others) once below in
      let sum : length (t ++ others) ≡ length t + length others = length-append t others in
      omega arith
    where
      -- the members that are not on the thread
      others : List ℕ
      others = without ℕ_discrete t s

      once : Nodup (t ++ others)
      once =
          nodup_append t others (thread_nodup thread) (antichain_without ℕ_discrete t s apart.antichain).once
          (λ x m n. (without_mem ℕ_discrete t s n).1 m)

      below : All (λ v. v < g.n) (t ++ others)
      below v m = ⊎_elim (thread.episodes v) (λ n. apart.episodes v (without_mem ℕ_discrete t s n).0) (append_cases t m)

  -- so the threads of a cover and an apart set of s have at most n + 1 - s steps for each thread
  steps_le : (ts : List (List ℕ)) (s : List ℕ) → Cover g ts → Apart g s → total_steps ts ≤ length ts * (g.n + 1 - length s)
  steps_le ts s cover apart =
      total_le (g.n + 1 - length s) ts
      (λ t m. let c : length t + length s ≤ g.n + 1 = thread_apart_le t s (cover.threads t m) apart in omega arith)

  -- a report's words, where every episode has one voice: the width, the apart set, for each thread its length and its steps, and the end
  pub report_fits_one : (ts : List (List ℕ)) (s : List ℕ) → OneVoice g → Cover g ts → Apart g s → length ts ≡ weight g s
      → 1 + length s + (length ts + total_steps ts) + 1 ≤ 2 + 2 * g.n + (g.n + 1) * (g.n + 1) / 4
  report_fits_one ts s voices cover apart same =
      let k : length s ≤ g.n = nodup_below g.n s apart.antichain.once apart.episodes in
      let one : weight g s ≡ length s = one_weight g voices s apart.episodes in
      let equal : length ts ≡ length s = omega arith in
      let total : total_steps ts ≤ length s * (g.n + 1 - length s) = rw equal at (steps_le ts s cover apart) in
      let quarter : length s * (g.n + 1 - length s) ≤ (g.n + 1) * (g.n + 1) / 4 = product_le (length s) (g.n + 1) (omega arith) in
      omega arith

  -- and where none has more than two
  pub report_fits_two : (ts : List (List ℕ)) (s : List ℕ) → ((v : ℕ) → Episode g v → g.voices v ≤ 2) → Cover g ts → Apart g s
      → length ts ≡ weight g s → 1 + length s + (length ts + total_steps ts) + 1 ≤ 2 + 3 * g.n + 2 * ((g.n + 1) * (g.n + 1) / 4)
  report_fits_two ts s voices cover apart same =
      let k : length s ≤ g.n = nodup_below g.n s apart.antichain.once apart.episodes in
      let two : weight g s ≤ length s + length s = weight_few g s voices apart.episodes in
      let more : length ts * (g.n + 1 - length s) ≤ (length s + length s) * (g.n + 1 - length s) =
      mul-le-mul_right (g.n + 1 - length s) (omega arith) in
      let parts : (length s + length s) * (g.n + 1 - length s) ≡ length s * (g.n + 1 - length s) + length s * (g.n + 1 - length s) =
      add-mul (length s) (length s) (g.n + 1 - length s) in
      let total : total_steps ts ≤ length ts * (g.n + 1 - length s) = steps_le ts s cover apart in
      let quarter : length s * (g.n + 1 - length s) ≤ (g.n + 1) * (g.n + 1) / 4 = product_le (length s) (g.n + 1) (omega arith) in
      omega arith
