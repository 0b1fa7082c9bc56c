use mathlib.Core.Path.{subst, ap, sym, ◌∙◌}
use Prim.Native.Nat.{◌+◌}
use native.Mathlib.Omega.{arith}
use Rattle.logs.specs.Log.{content_of}
use Rattle.logs.specs.declared.passed.Log.{Log}
use Rattle.logs.specs.declared.passed.Groups.{Groups}
use Rattle.logs.proofs.Passing.{from_below, to_below}
use Rattle.reach.specs.Reach.{LinksMarked}
use Rattle.reach.proofs.Marks.{marking_start, marking_on, marking_end}
use Rattle.reach.proofs.mark_links.Goals as goal

pub loop-group-init : goal.loop-group-init
loop-group-init c =
    let same = c.into_iter-group-iterator.ensures.into_iter_gives in
    let first = c.groups-group-items.ensures in
    let log = ap (λ (s : Groups). s.log) same ∙ first.0 in
    let start = ap (λ (s : Groups). s.at) same ∙ first.1 ∙ ap (λ (l : Log). l.voices_words + 1) (sym log) in
    (tt, tt, log, marking_start c.into_iter-group-iterator.result c.args.w.now start c.requires.1)

pub mark_group-requires : goal.mark_group-requires
mark_group-requires c =
    let s = c.loop-group.group-iterator in
    let d = c.in-Some.ensures.steps in
    let few : _ = ap (λ (l : Log). l.episodes) c.loop-group.invariant.2 in (
      omega (arith, from_below s c.in-Some.group _ d, few),
      λ j h. omega (arith, to_below s c.in-Some.group _ d j h, few),
    )

pub loop-group-preserved : goal.loop-group-preserved
loop-group-preserved c =
    let d = c.in-Some.ensures.steps in
    let same = c.loop-group.invariant.2 in
    let version = ap (λ (l : Log). (content_of l.words.now).version) (sym same) in (
      tt,
      tt,
      d.same ∙ same,
      marking_on c.loop-group.invariant.3 d (rw (c.version-version.ensures ∙ version) at c.mark_group.ensures),
    )

pub returns : goal.returns
returns c =
    let at = c.loop-group in
    subst (λ (l : Log). LinksMarked l.words.now c.args.w.now at.w) at.invariant.2 (marking_end at.group-iterator at.invariant.3 c.in-None.ensures.steps.0)
