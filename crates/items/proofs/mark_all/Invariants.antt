-- `items::mark_all` meets its contract. The invariant: the masks of the episodes below `b` are made, and the others are zero.
-- Assumes nothing.
use Prim.Native.Nat.{ℕ}
use Rattle.items.specs.Listed.{Listed}
use Rattle.items.proofs.Rows.{Marked}
use Rattle.items.proofs.mark_all.Given as goal

abbrev pub invariant-loop-b : goal.invariant-loop-b
invariant-loop-b l = (m : ℕ) → Listed l.w l.n m → Marked l.w l.b m l.masks
