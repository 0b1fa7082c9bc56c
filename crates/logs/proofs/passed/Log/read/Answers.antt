-- `logs::Log::read` meets its contract: what passes at the caller's ceilings passes at its own figures.
-- Assumes nothing.
use mathlib.Core.Path.{sym}
use Rattle.logs.proofs.WellFormed.{passes_own}
use Rattle.logs.proofs.passed.Log.read.Goals as goal

pub invariant_of-result : goal.invariant_of-result
invariant_of-result c =
    let r = c.in_ok-reading.reading in
    record {
      passes = passes_own c.args.most c.args.words.now r.episodes r.to_words (sym c.in_ok-reading.ensures.answer);
      voices = c.in_ok-reading.ensures.voices;
    }
