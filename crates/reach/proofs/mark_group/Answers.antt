use Rattle.reach.proofs.Marks.{group_first, group_more}
use Rattle.reach.proofs.mark_group.Goals as goal

pub loop-word-init : goal.loop-word-init
loop-word-init c = let g = c.args.group in group_first c.args.version g.from g.to_words.now c.args.w.now

pub loop-word-preserved : goal.loop-word-preserved
loop-word-preserved c =
    let g = c.args.group in
    let at = c.loop-word in
    group_more c.args.version g.from g.to_words.now at.word-index c.requires.0 c.requires.1 c.loop-word-test.true at.invariant
    (rw (c.from.ensures.0, c.from.ensures.1) at c.mark_link.ensures)
