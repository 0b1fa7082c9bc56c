-- `items::pair_all` meets its contract. The invariant: the items of the episodes below `a` have their rows.
-- Assumes nothing.
use Prim.Native.Nat.{ℕ}
use Rattle.items.specs.Listed.{Listed}
use Rattle.items.proofs.Pairs.{PairedTo}
use Rattle.items.proofs.pair_all.Given as goal

abbrev pub invariant-loop-a : goal.invariant-loop-a
invariant-loop-a l = (m : ℕ) → Listed l.initial.w l.n m → PairedTo l.initial.w l.w m l.a
