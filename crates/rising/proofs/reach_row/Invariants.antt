-- `rising::reach_row` meets its contract. The invariant: row `a` has its links below `from`, and the ways from there.
-- Assumes nothing.
use Prim.Native.Nat.{◌-◌}
use Rattle.rising.proofs.Rising.{InRow}
use Rattle.rising.proofs.reach_row.Given as goal

abbrev pub invariant-loop-b : goal.invariant-loop-b
invariant-loop-b l = InRow l.initial.w l.w l.a l.from

abbrev pub decreases-loop-b : goal.decreases-loop-b
decreases-loop-b l = 256 - l.from
