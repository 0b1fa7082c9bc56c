-- `bits::copy_matrix` meets its contract. The invariant: the words before `i` are copied.
-- Assumes nothing.
use Rattle.bits.proofs.Matrices.{Copying}
use Rattle.bits.proofs.copy_matrix.Given as goal

abbrev pub invariant-loop-i : goal.invariant-loop-i
invariant-loop-i l = Copying l.initial.w l.w l.from l.to l.i
