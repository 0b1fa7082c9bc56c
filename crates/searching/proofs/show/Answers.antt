use Rattle.std.proofs.Common.{refl, rules, arith}
use Rattle.searching.proofs.Words.{figure_none, figure_some}
use Rattle.searching.proofs.Showing.{showing_start, showing_same, showing_more, showing_found, showing_end}
use Rattle.searching.proofs.show.Goals as goal

pub returns-then-not-any : goal.returns-then-not-any
returns-then-not-any c =
    let start = showing_start c.requires refl c.row_at.ensures c.row_without-new.ensures in
    showing_end start (λ b l. c.any.ensures (search rules) b (omega (arith, c.requires.0.items)))

pub loop-b-init : goal.loop-b-init
loop-b-init c = (
  tt,
  tt,
  rw c.into_iter-b-iterator.ensures.into_iter_gives
      (showing_same c.bits_of-b-items.ensures (showing_start c.requires refl c.row_at.ensures c.row_without-new.ensures)),
)

pub returns-then-is_none : goal.returns-then-is_none
returns-then-is_none c =
    let given = c.in-Some.ensures.steps in
    (c.loop-b.end, c.if-m-b.false, showing_found c.loop-b.invariant.2 given.here given.lower c.if-m-b.false c.see.ensures (search (rules, figure_none)))

pub loop-b-preserved : goal.loop-b-preserved
loop-b-preserved c =
    let given = c.in-Some.ensures.steps in
    (tt, tt, showing_more c.loop-b.invariant.2 given.here given.lower c.if-m-b.false c.see.ensures (search (rules, figure_some)) given.taken given.others)

pub returns-in-None : goal.returns-in-None
returns-in-None c = showing_end c.loop-b.invariant.2 (λ b l. c.in-None.ensures.steps.0 b (omega (arith, c.requires.0.items)))

pub returns-then-m-b : goal.returns-then-m-b
returns-then-m-b c = showing_end c.loop-b.invariant.2 (λ b l. c.in-Some.ensures.steps.lower b (omega (arith, c.if-m-b.true)))
