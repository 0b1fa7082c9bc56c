-- `writing::write_loop` meets its contract. The invariant: the loop's episodes up to `at` stand behind the first word. The measure is what is
-- left of 256, since no episode is written twice.
-- Assumes nothing.
use Prim.Native.Nat.{◌-◌}
use Rattle.writing.proofs.Walks.{Written}
use Rattle.writing.proofs.write_loop.Given as goal

abbrev pub invariant-loop-next : goal.invariant-loop-next
invariant-loop-next l = Written l.w l.initial.out l.out l.v l.count l.at

abbrev pub decreases-loop-next : goal.decreases-loop-next
decreases-loop-next l = 256 - l.count
