-- `copying::write_voices` meets its contract. The invariant: the voices words of the episodes below `v` stand behind the first word.
-- Assumes nothing.
use lib.ListN.{length}
use Rattle.logs.specs.Words.{voices_word}
use Rattle.writing.proofs.Listing.{Listing}
use Rattle.copying.specs.FairCopy.{not_one}
use Rattle.copying.specs.Copying.{said}
use Rattle.copying.proofs.write_voices.Given as goal

abbrev pub invariant-loop-v : goal.invariant-loop-v
invariant-loop-v l =
    Listing (not_one (said l.voices)) (λ u. voices_word u (said l.voices u)) l.initial.out l.out (length l.voices) l.count l.v
