-- `logs::Log::version` meets its contract: a log that passes has a head.
-- Assumes nothing.
use native.Mathlib.Omega.{arith}
use Rattle.logs.proofs.WellFormed.{well_formed}
use Rattle.logs.proofs.passed.Log.version.Goals as goal

pub bounds-self-0 : goal.bounds-self-0
bounds-self-0 c = let l = c.args.self in omega (arith, (well_formed _ l.words.now l.episodes l.to_words l.passes).long)
