use Rattle.std.proofs.Common.{◌+◌, map, drop, refl}
use Rattle.logs.specs.Words.{number}
use Rattle.text.specs.Text.{figure, figures}
use Rattle.text.proofs.Puts.{putting_more}
use Rattle.text.proofs.Parts.{number_first}
use Rattle.text.proofs.put_numbers.Goals as goal

pub loop-word-preserved : goal.loop-word-preserved
loop-word-preserved c =
    let l = c.loop-word in
    let ws = c.args.words.now in
    putting_more l.invariant (figure c.number_of.result) (figures (map number (drop (l.word-index + 1) ws)))
    (number_first ws l.word-index c.loop-word-test.true c.number_of.result c.number_of.ensures) c.put_figure-at.ensures refl refl
