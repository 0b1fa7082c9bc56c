-- `input::fill` meets its contract. The invariant: the first `i` words are written.
-- Assumes nothing.
use Rattle.input.proofs.Words.{Written}
use Rattle.input.proofs.fill.Given as goal

abbrev pub invariant-loop-i : goal.invariant-loop-i
invariant-loop-i l = Written l.bytes l.words l.i
