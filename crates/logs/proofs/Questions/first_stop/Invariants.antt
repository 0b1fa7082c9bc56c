-- `logs::Questions::first_stop` meets its contract. The invariant of the outer loop: a group begins here, or the last word stands here; of the inner
-- loop: the words of a group were passed over up to here, where a to word stands. Either way what is left to ask here is what is left to ask of
-- the whole, all words before here but `others` are to words, and of their links those that their pauses let count were heard. The measure of both
-- is what is left of the log.
-- Assumes nothing.
use Prim.Native.Nat.{◌-◌, ◌≤◌}
use lib.ListN.{length}
use Rattle.logs.proofs.Hearing.{HeardAt, HeardIn}
use Rattle.logs.proofs.Questions.first_stop.Given as goal

abbrev pub invariant-loop-to : goal.invariant-loop-to
invariant-loop-to g l =
    HeardIn (g.H.Hear.heard l.hearer) g.H.Hear.row_of l.self.most l.self.log.now l.self.n l.start l.at l.others l.row × (l.initial.at ≤ l.at)

abbrev pub decreases-loop-to : goal.decreases-loop-to
decreases-loop-to g l = length l.self.log.now - l.at

abbrev pub invariant-log : goal.invariant-log
invariant-log g l = HeardAt (g.H.Hear.heard l.hearer) l.self.most l.self.log.now l.self.n l.start l.at l.others

abbrev pub decreases-log : goal.decreases-log
decreases-log g l = length l.self.log.now - l.at
