-- `reach::mark_group` meets its contract. The invariant: the links of the to words before the next one are marked where
-- their pauses let them count.
-- Assumes nothing.
use lib.ListN.{take}
use Rattle.reach.specs.Reach.{GroupMarked}
use Rattle.reach.proofs.mark_group.Given as goal

abbrev pub invariant-loop-word : goal.invariant-loop-word
invariant-loop-word l = GroupMarked l.version l.group.from (take l.word-index l.group.to_words.now) l.initial.w l.w
