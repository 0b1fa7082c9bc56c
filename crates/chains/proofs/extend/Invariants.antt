-- `chains::extend` meets its contract. The loop's invariant: the way back over what the search has left goes on, `Going`. The measure is the
-- place from which the next item was seen. Assumes nothing.
use Prim.Native.Nat.{ℕ}
use Rattle.chains.proofs.Extending.{left, Going}
use Rattle.chains.proofs.extend.Given as goal

abbrev pub invariant-loop-item : goal.invariant-loop-item
invariant-loop-item l = (tail : ℕ) × Going l.initial.w l.w l.base l.m tail l.item

abbrev pub decreases-loop-item : goal.decreases-loop-item
decreases-loop-item l = left l.w l.item
