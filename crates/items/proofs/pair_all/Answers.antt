use native.Mathlib.Omega.{arith}
use Rattle.items.proofs.Pairs.{paired_ready, paired_skip, paired_more, paired_end}
use Rattle.items.proofs.pair_all.Goals as goal
use Rattle.items.proofs.pair_all.Goals.{then-voices_of-gt0, else-voices_of-gt0}

pub pair_items-requires : goal.pair_items-requires
pair_items-requires c =
    let (m, l, ways) = c.requires in
    (c.args.n, m, paired_ready l (c.loop-a.invariant m l) (c.mark_all.ensures m l) ways (omega arith))

pub loop-a-preserved : goal.loop-a-preserved
loop-a-preserved c = λ m l.
    let s = c.loop-a.invariant m l in
    elim c.if-voices_of-gt0.branch [
      | then-voices_of-gt0 w ↦
          rw w.w-is (paired_more l s (w.pair_items.ensures c.args.n m (paired_ready l s (c.mark_all.ensures m l) c.requires.2 (omega arith))))
      | else-voices_of-gt0 w ↦ rw w.w-is (paired_skip l s (omega arith))
    ]

pub returns : goal.returns
returns c = λ m l ways. paired_end l (c.loop-a.invariant m l) (omega arith)
