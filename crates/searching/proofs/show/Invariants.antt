-- `searching::show` meets its contract. The loop's invariant, `Showing`: the item at `head` has shown what the iterator has given, and what is left to
-- give is what it has that is not seen. Assumes nothing.
use Rattle.bits.specs.Ones.{left}
use Rattle.searching.proofs.Showing.{Showing}
use Rattle.searching.proofs.show.Given as goal

abbrev pub invariant-loop-b : goal.invariant-loop-b
invariant-loop-b l =
    (goal.iterator-loop-b).can_next l.b-iterator × (goal.iterator-loop-b).is_finite l.b-iterator
    × Showing l.initial.w l.w l.base l.m l.head l.end (left l.b-iterator)
