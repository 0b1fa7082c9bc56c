-- `rising::take_ends` meets its contract: a row without the bits of another takes the place of the ways.
-- Assumes nothing.
use native.Mathlib.Omega.{arith}
use Rattle.rising.proofs.Rising.{ends_taken}
use Rattle.rising.proofs.take_ends.Goals as goal

pub returns : goal.returns
returns c = λ a p q. rw c.copy_from_slice.ensures.after (ends_taken _ (omega arith) c.row_without-ends.ensures (omega arith) p q)
