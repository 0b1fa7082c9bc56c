use Rattle.copying.proofs.Rows.{group_more}
use Rattle.copying.proofs.mark_group.Goals as goal

pub loop-word-preserved : goal.loop-word-preserved
loop-word-preserved c =
    let g = c.args.group in
    let at = c.loop-word in
    let to = c.from-to.ensures in
    group_more g.from g.to_words.now at.word-index c.requires c.loop-word-test.true at.invariant (rw (to.0, to.1) at c.lower.ensures)
