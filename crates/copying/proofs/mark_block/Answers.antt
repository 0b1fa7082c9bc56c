use mathlib.Core.Path.{subst, sym, ap, ◌∙◌}
use Prim.Native.Nat.{◌+◌}
use native.Mathlib.Omega.{arith}
use Rattle.logs.specs.Log.{content_of}
use Rattle.logs.specs.declared.passed.Log.{Log}
use Rattle.logs.specs.declared.passed.Groups.{Groups}
use Rattle.logs.proofs.Passing.{to_below}
use Rattle.copying.specs.Copying.{BlockMarks}
use Rattle.copying.proofs.Rows.{marking_start, marking_on, marking_end, group_passed}
use Rattle.copying.proofs.mark_block.Goals as goal

pub loop-group-init : goal.loop-group-init
loop-group-init c =
    let same = c.into_iter-group-iterator.ensures.into_iter_gives in
    let first = c.groups-group-items.ensures in
    let log = ap (λ (s : Groups). s.log) same ∙ first.0 in (
      tt,
      tt,
      log,
      marking_start c.into_iter-group-iterator.result c.args.w.now c.args.block
          (ap (λ (s : Groups). s.at) same ∙ first.1 ∙ sym (ap (λ (l : Log). l.voices_words + 1) log))
          (omega (arith, ap (λ (l : Log). l.episodes) log, c.requires.0)) c.requires.1,
    )

pub mark_group-requires : goal.mark_group-requires
mark_group-requires c =
    let s = c.loop-group.group-iterator in
    λ j h. omega (arith, to_below s c.in-Some.group _ c.in-Some.ensures.steps j h, c.loop-group.invariant.3.few)

pub loop-group-preserved-then-group-block : goal.loop-group-preserved-then-group-block
loop-group-preserved-then-group-block c =
    let d = c.in-Some.ensures.steps in
    (tt, tt, d.same ∙ c.loop-group.invariant.2, marking_on c.loop-group.invariant.3 d (rw c.if-group-block.true at c.mark_group.ensures))

pub loop-group-preserved : goal.loop-group-preserved
loop-group-preserved c =
    let d = c.in-Some.ensures.steps in
    let g = c.in-Some.group in (
      tt,
      tt,
      d.same ∙ c.loop-group.invariant.2,
      marking_on c.loop-group.invariant.3 d (group_passed c.args.block g.from g.to_words.now c.loop-group.w c.if-group-block.false),
    )

pub returns : goal.returns
returns c =
    let at = c.loop-group in
    subst (λ (l : Log). BlockMarks c.args.block (content_of l.words.now) at.w) at.invariant.2 (marking_end at.group-iterator at.invariant.3 c.in-None.ensures.steps.0)
