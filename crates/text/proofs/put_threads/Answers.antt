use Rattle.std.proofs.Common.{◌+◌, ◌-◌, length, take, drop, map, codes, sym, ap, ◌∙◌}
use Rattle.logs.specs.Words.{number}
use Rattle.writing.specs.Layout.{threads_of}
use Rattle.text.specs.Text.{line, thread_lines}
use Rattle.text.proofs.Puts.{putting_all, putting_same, putting_lent, putting_more}
use Rattle.text.proofs.Parts.{steps_taken, thread_first, thread_other, thread_end}
use Rattle.text.proofs.put_threads.Goals as goal
use Rattle.text.proofs.put_threads.Goals.{then-is_of, else-is_of}

pub put_line-at-requires : goal.put_line-at-requires
put_line-at-requires c =
    let i = c.loop-i.i in
    let ws = c.args.words.now in
    let steps = take c.min.result (take (length ws - (i + 1)) (drop (i + 1) ws)) in
    putting_lent c.loop-i.invariant c.requires (line (codes "thread") (map number steps)) (thread_lines (threads_of (drop (i + 1) ws)))
    (thread_first ws i c.loop-i-test.true steps (sym c.is_of.ensures ∙ c.if-is_of.true) (steps_taken ws i _ _ c.number_of.ensures c.min.ensures))

pub loop-i-preserved : goal.loop-i-preserved
loop-i-preserved c =
    let i = c.loop-i.i in
    let ws = c.args.words.now in
    elim c.if-is_of.branch [
      | then-is_of u ↦
          let steps = take u.min.result (take (length ws - (i + 1)) (drop (i + 1) ws)) in
          putting_more c.loop-i.invariant (line (codes "thread") (map number steps)) (thread_lines (threads_of (drop (i + 1) ws)))
          (thread_first ws i c.loop-i-test.true steps (sym c.is_of.ensures ∙ u.if-is_of.true) (steps_taken ws i _ _ u.number_of.ensures u.min.ensures))
          u.put_line-at.ensures u.text-is u.at-is
      | else-is_of u ↦ rw (u.text-is, u.at-is) (putting_same c.loop-i.invariant
          (ap thread_lines (thread_other ws i c.loop-i-test.true (sym c.is_of.ensures ∙ u.if-is_of.false))))
    ]

pub returns : goal.returns
returns c = putting_all c.loop-i.invariant (ap thread_lines (thread_end c.args.words.now c.loop-i.i c.loop-i-test.false))
