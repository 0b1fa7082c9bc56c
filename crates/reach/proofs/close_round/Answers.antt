use native.Mathlib.Omega.{arith}
use Rattle.reach.proofs.Rounds.{round_row, round_end}
use Rattle.reach.proofs.close_round.Goals as goal

pub loop-a-preserved : goal.loop-a-preserved
loop-a-preserved c =
    round_row c.args.w.now c.loop-a.w c.close_row.new.w _ c.args.n c.args.k c.loop-a.a
    (omega arith) (omega arith) (omega arith) c.loop-a.invariant c.close_row.ensures

pub returns : goal.returns
returns c =
    round_end c.args.w.now c.loop-a.w _ c.args.n c.args.k c.loop-a.a (omega arith) c.loop-a.invariant
