-- `text::put_decimal` meets its contract: the digits before the last, where there are any, then that.
-- Assumes nothing.
use native.Mathlib.Omega.{arith}
use Rattle.text.proofs.Puts.{front_none, front_more, front_shorter, front_room, front_put}
use Rattle.text.proofs.+put_decimal.Goals as goal
use Rattle.text.proofs.+put_decimal.Goals.{then-n-lt10, else-n-lt10}

pub put_decimal-at-requires : goal.put_decimal-at-requires
put_decimal-at-requires t c =
    (omega (arith, c.decreases, c.if-n-lt10.false), front_shorter c.args.n c.if-n-lt10.false (omega (arith, c.ranges.n)) c.requires)

pub bounds-text-at : goal.bounds-text-at
bounds-text-at t c =
    elim c.if-n-lt10.branch [
      | then-n-lt10 w ↦ rw (w.text-is, w.at-is) (front_room (front_none c.args.n c.args.text.now w.if-n-lt10.true) c.requires)
      | else-n-lt10 w ↦ rw (w.text-is, w.at-is)
          (front_room (front_more c.args.n c.args.text.now _ _ w.if-n-lt10.false (omega (arith, c.ranges.n)) w.put_decimal-at.ensures) c.requires)
    ]

pub returns : goal.returns
returns t c =
    elim c.if-n-lt10.branch [
      | then-n-lt10 w ↦ rw (w.text-is, w.at-is) (front_put (front_none c.args.n c.args.text.now w.if-n-lt10.true) c.requires)
      | else-n-lt10 w ↦ rw (w.text-is, w.at-is)
          (front_put (front_more c.args.n c.args.text.now _ _ w.if-n-lt10.false (omega (arith, c.ranges.n)) w.put_decimal-at.ensures) c.requires)
    ]
