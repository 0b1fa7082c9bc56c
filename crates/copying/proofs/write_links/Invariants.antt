-- `copying::write_links` meets its contract. The invariant: the marked numbers below `b` stand as to words behind the first word.
-- Assumes nothing.
use lib.ListN.{length}
use Rattle.logs.specs.Words.{to_word}
use Rattle.writing.proofs.Listing.{Listing}
use Rattle.copying.specs.Copying.{marked_at, pause_at}
use Rattle.copying.proofs.write_links.Given as goal

abbrev pub invariant-loop-b : goal.invariant-loop-b
invariant-loop-b l = Listing (marked_at l.row) (λ c. to_word c (pause_at l.row c)) l.initial.out l.out (length l.row) l.links l.b
