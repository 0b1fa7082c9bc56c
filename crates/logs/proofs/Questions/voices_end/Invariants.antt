-- `logs::Questions::voices_end` meets its contract. The invariant: behind the head and before here stand voices words alone, which pass, and `seen`
-- notes their episodes. The measure is what is left of the log.
-- Assumes nothing.
use mathlib.Core.Path.{◌≡◌}
use Prim.Native.Nat.{◌-◌}
use lib.ListN.{length}
use Rattle.logs.specs.Log.{most_with_voices, marks_of}
use Rattle.logs.specs.Places.{Noted}
use Rattle.logs.specs.Groups.{before}
use Rattle.logs.proofs.Voices.{AtVoices}
use Rattle.logs.proofs.Questions.voices_end.Given as goal

abbrev pub invariant-loop-at : goal.invariant-loop-at
invariant-loop-at l =
    AtVoices l.self.most l.self.log.now l.self.n l.at × Noted l.seen (marks_of (before l.self.log.now l.at)) × (length l.seen ≡ most_with_voices)

abbrev pub decreases-loop-at : goal.decreases-loop-at
decreases-loop-at l = l.last - l.at
