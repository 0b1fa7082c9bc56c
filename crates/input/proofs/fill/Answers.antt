use native.Mathlib.Omega.{arith}
use Rattle.input.proofs.Words.{one_more, all_written}
use Rattle.input.proofs.fill.Goals as goal

pub loop-i-preserved : goal.loop-i-preserved
loop-i-preserved c =
    let a = c.args in
    let l = c.loop-i in
    rw c.word_at.ensures (one_more a.bytes.now l.words l.i (omega arith) (omega arith) l.invariant)

pub returns : goal.returns
returns c =
    let l = c.loop-i in
    all_written c.args.bytes.now l.words l.i (omega arith) (omega arith) l.invariant
