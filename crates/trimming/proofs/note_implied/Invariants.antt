-- `trimming::note_implied` meets its contract. The invariant: the ways of the links in the first `i` words are noted.
-- Assumes nothing.
use Rattle.trimming.proofs.Joining.{Noting}
use Rattle.trimming.proofs.note_implied.Given as goal

abbrev pub invariant-loop-i : goal.invariant-loop-i
invariant-loop-i l = Noting l.w l.implied l.row l.i
