-- The rows of what is seen and of what is dead, made zero or copied.
use mathlib.Core.List.{List}
use Prim.Native.Nat.{ℕ, ◌+◌, ◌/◌}
use native.Mathlib.Omega.{arith}
use Rattle.bits.specs.Bits.{RowCopied}
use Rattle.bits.specs.Work.{seen_at, dead_at, none_at, Outside}
use Rattle.bits.proofs.Rows.{bits_zero}
use Rattle.bits.proofs.Frames.{Cleared}
use Rattle.searching.specs.State.{ForgottenIn}

pub forgotten : {w w' : List ℕ} → Cleared seen_at none_at w w' → ForgottenIn w w'
forgotten {w' = w'} c =
    record {
      outside = c.outside;
      none_seen = λ b h. bits_zero w' seen_at b (c.zeros (seen_at + b / 32) (omega arith) (omega arith));
      none_dead = λ b h. bits_zero w' dead_at b (c.zeros (dead_at + b / 32) (omega arith) (omega arith));
    }

pub copied_outside : {w w' : List ℕ} {to from : ℕ} → RowCopied w w' to from → Outside to (to + 8) w w'
copied_outside c = record { same_length = c.same_length; before = c.before; behind = c.behind }
