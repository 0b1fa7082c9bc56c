-- Sums of which one term is less.
use mathlib.Core.Path.{◌≡◌, subst}
use Prim.Native.Nat.{ℕ, zero, suc, ◌+◌, ◌≤◌, ◌<◌}
use native.Mathlib.Decide.{ℕ_discrete}
use native.Mathlib.Omega.{arith}
use Rattle.bits.specs.Bits.{sum}

sum_le : (k : ℕ) (f g : ℕ → ℕ) → ((i : ℕ) → i < k → f i ≤ g i) → sum f k ≤ sum g k
unfolding sum
sum_le zero f g h = omega arith
sum_le (suc k) f g h = let a = h k (omega arith) in let r = sum_le k f g (λ i l. h i (omega arith)) in omega arith

pub sum_less : (k : ℕ) (f g : ℕ → ℕ) → ((i : ℕ) → i < k → f i ≤ g i) → (j : ℕ) → j < k → f j < g j → sum f k < sum g k
unfolding sum
sum_less zero f g h j l d = absurd (omega arith)
sum_less (suc k) f g h j l d =
    go (λ n. sum_less k f g (λ i o. h i (omega arith)) j n d) (sum_le k f g (λ i o. h i (omega arith))) (h k (omega arith)) (ℕ_discrete j k)
  where
    go : (j < k → sum f k < sum g k) → sum f k ≤ sum g k → f k ≤ g k → Dec (j ≡ k) → f k + sum f k < g k + sum g k
    go rest le a (yes e) = let b : f k < g k = subst (λ (x : ℕ). f x < g x) e d in omega arith
    go rest le a (no ne) = let b = rest (omega arith) in omega arith
