use Rattle.std.proofs.Common.{◌+◌, drop, sym, ap, ◌∙◌}
use Rattle.writing.specs.Layout.{apart_of}
use Rattle.text.specs.Text.{figure, figures}
use Rattle.text.proofs.Puts.{putting_all, putting_same, putting_lent, putting_more}
use Rattle.text.proofs.Parts.{apart_first, apart_other, apart_end}
use Rattle.text.proofs.put_apart.Goals as goal
use Rattle.text.proofs.put_apart.Goals.{then-is_of, else-is_of}

pub put_figure-at-requires : goal.put_figure-at-requires
put_figure-at-requires c =
    let l = c.loop-word in
    let ws = c.args.words.now in
    putting_lent l.invariant c.requires (figure c.number_of.result) (figures (apart_of (drop (l.word-index + 1) ws)))
    (apart_first ws l.word-index c.loop-word-test.true c.number_of.result (sym c.is_of.ensures ∙ c.if-is_of.true) c.number_of.ensures)

pub loop-word-preserved : goal.loop-word-preserved
loop-word-preserved c =
    let l = c.loop-word in
    let ws = c.args.words.now in
    elim c.if-is_of.branch [
      | then-is_of u ↦ putting_more l.invariant (figure u.number_of.result) (figures (apart_of (drop (l.word-index + 1) ws)))
          (apart_first ws l.word-index c.loop-word-test.true u.number_of.result (sym c.is_of.ensures ∙ u.if-is_of.true) u.number_of.ensures)
          u.put_figure-at.ensures u.text-is u.at-is
      | else-is_of u ↦ rw (u.text-is, u.at-is) (putting_same l.invariant
          (ap figures (apart_other ws l.word-index c.loop-word-test.true (sym c.is_of.ensures ∙ u.if-is_of.false))))
    ]

pub returns : goal.returns
returns c = putting_all c.loop-word.invariant (ap figures (apart_end c.args.words.now c.loop-word.word-index c.loop-word-test.false))
