-- `searching::search` meets its contract. The loop's invariant, `Looking`: the items before `head` have shown all that they have. The measure is
-- how many places of the queue there can be from `head` on. Assumes nothing.
use Prim.Native.Nat.{◌-◌}
use Rattle.searching.proofs.Looking.{Looking}
use Rattle.searching.proofs.search.Given as goal

abbrev pub invariant-loop-head : goal.invariant-loop-head
invariant-loop-head l = Looking l.fn.w l.w l.base l.m l.a l.head l.tail

abbrev pub decreases-loop-head : goal.decreases-loop-head
decreases-loop-head l = l.m - l.head
