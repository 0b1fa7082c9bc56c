-- `copying::mark_group` meets its contract. The invariant: the to words before the next one are marked.
-- Assumes nothing.
use Prim.Native.Nat.{◌/◌}
use lib.ListN.{take}
use Rattle.copying.specs.Copying.{GroupTaken}
use Rattle.copying.proofs.mark_group.Given as goal

abbrev pub invariant-loop-word : goal.invariant-loop-word
invariant-loop-word l = GroupTaken (l.group.from / 64) l.group.from (take l.word-index l.group.to_words.now) l.initial.w l.w
