-- The test for the members of the antichain that an exhausted search shows.
use Rattle.std.proofs.lemmas.Grind.{common_steps}
use mathlib.Core.Path.{◌≡◌}
use mathlib.Core.Bool.{true}
use Prim.Native.Nat.{ℕ, ◌<◌}
use native.Mathlib.Omega.{arith}
use Rattle.searching.specs.Items.{Tables, Matching, Open, member_test}

module _ (t : Tables) where
  -- a member is not seen and open
  pub member_open : {m v : ℕ} → Matching m t → v < m → member_test t v ≡ true → (t.seen v ≡ 0) × Open m t v
  member_open c h e = grind (arith, common_steps)

  -- what is not seen and open passes
  pub open_member : {m v : ℕ} → t.seen v ≡ 0 → Open m t v → member_test t v ≡ true
  open_member z o = grind (arith, common_steps)
