-- `bits::next_new` meets its contract. The invariant: from `from` on and before `at` there is no bit that the one row has and the other has not.
-- Assumes nothing.
use Prim.Native.Nat.{◌-◌}
use Rattle.bits.specs.Bits.{bit}
use Rattle.bits.proofs.Rows.{NoneFrom}
use Rattle.bits.proofs.next_new.Given as goal

abbrev pub invariant-loop-at : goal.invariant-loop-at
invariant-loop-at l = NoneFrom (λ c. bit l.w l.row c - bit l.w l.seen c) l.from l.at

abbrev pub decreases-loop-at : goal.decreases-loop-at
decreases-loop-at l = 256 - l.at
