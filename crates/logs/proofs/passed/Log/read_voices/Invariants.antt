-- `logs::Log::read_voices` meets its contract. The invariant: the table has the voices that the voices words before here give.
-- Assumes nothing.
use lib.ListN.{take, drop}
use Rattle.logs.specs.Log.{marks_of, voices_by}
use Rattle.logs.specs.Voices.{VoicesRead}
use Rattle.logs.proofs.passed.Log.read_voices.Given as goal

abbrev pub invariant-loop-w : goal.invariant-loop-w
invariant-loop-w l = VoicesRead (voices_by (marks_of (take l.w-index (drop 1 l.self.words.now)))) l.self.episodes l.fn.table l.table
