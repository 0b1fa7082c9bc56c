-- `reach::first_loop` meets its contract: the first that is found has a way to itself, and none before it has.
-- Assumes nothing.
use mathlib.Core.Path.{◌≡◌}
use Prim.Native.Nat.{ℕ, ◌+◌, ◌*◌, ◌<◌, ◌≤◌}
use native.Mathlib.Omega.{arith}
use Rattle.std.proofs.Common.{rules}
use Rattle.std.specs.Option.{MatchOption}
use Rattle.std.specs.Prelude.{Option, Some, None}
use Rattle.std.proofs.lemmas.Iterator.{first_from_Range}
use Rattle.bits.specs.Bits.{bit}
use Rattle.bits.specs.Work.{ways_at}
use Rattle.bits.proofs.Rows.{bit_here, bit_unset}
use Rattle.reach.specs.Reach.{FirstLoop, episode_or}
use Rattle.reach.proofs.first_loop.Goals as goal

pub returns-clause-first : goal.returns-clause-first
returns-clause-first c =
    let w = c.args.w.now in
    go c.find.result
    (first_from_Range _ _ _ c.find.result (λ v. bit w (ways_at + 8 * v) v ≡ 1) (λ v. bit w (ways_at + 8 * v) v ≡ 0) c.find.ensures.ran
    (λ v q k. bit_here w (ways_at + 8 * v) v (search rules)) (λ v q k. (search rules, bit_unset w (ways_at + 8 * v) v (search rules))))
  where
    go : (r : Option ℕ)
        → MatchOption r ((k : ℕ) → 0 ≤ k → k < c.args.n → bit c.args.w.now (ways_at + 8 * k) k ≡ 0)
        (λ v. (0 ≤ v) × (v < c.args.n) × (bit c.args.w.now (ways_at + 8 * v) v ≡ 1) × ((k : ℕ) → 0 ≤ k → k < v → bit c.args.w.now (ways_at + 8 * k) k ≡ 0))
        → FirstLoop c.args.w.now c.args.n (episode_or c.args.n r)
    go None none = record { at_most = omega arith; here = λ h. absurd (omega arith); first = λ u h. none u (omega arith) h }
    go (Some v) (lo, below, here, first) = record { at_most = omega arith; here = λ h. here; first = λ u h. first u (omega arith) h }
