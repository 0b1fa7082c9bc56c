use mathlib.Core.Path.{◌≡◌, ◌∙◌, sym}
use mathlib.Core.Bool.{false}
use Prim.Native.Nat.{◌<◌}
use native.Mathlib.Omega.{arith}
use lib.ListN.{get_or, length-set}
use Rattle.std.proofs.lemmas.List.{length-replicate}
use borrow.Author.Tests.{eqb-true, eqb-false}
use Rattle.std.proofs.lemmas.Result.{err_from_is_err_and}
use Rattle.logs.specs.Words.{voices_episode}
use Rattle.logs.specs.Log.{most_with_voices}
use Rattle.logs.proofs.Voices.{episode_given, behind_first, behind_voices_word, voices_given_up, voices_over, noted_first, noted_next}
use Rattle.logs.proofs.Questions.voices_end.Goals as goal
use Rattle.logs.proofs.Questions.voices_end.Goals.{In_ok-mark}

pub loop-at-init : goal.loop-at-init
loop-at-init c = (behind_first _ _ _ c.requires, noted_first c.args.self.log.now, length-replicate most_with_voices false)

pub voices_word-requires : goal.voices_word-requires
voices_word-requires c = (omega arith, eqb-true _ 9 (sym c.is_of.ensures ∙ c.if-is_of.true), c.loop-at.invariant.1)

pub returns-in_err-mark : goal.returns-in_err-mark
returns-in_err-mark c =
    let p = err_from_is_err_and c.from_residual.result c.from_residual.ensures.1 in
    rw (p.1, p.2)
    (voices_given_up _ _ _ c.loop-at.at c.loop-at.invariant.0 (omega arith) (eqb-true _ 9 (sym c.is_of.ensures ∙ c.if-is_of.true)) _ _ c.in_err-mark.ensures)

-- the episode of the word that is taken
episode : (c : In_ok-mark)
    → (c.in_ok-mark.mark.episode ≡ voices_episode (get_or c.args.self.log.now c.loop-at.at 0)) × (c.in_ok-mark.mark.episode < most_with_voices)
episode c = episode_given c.args.self.n c.loop-at.at _ _ c.in_ok-mark.mark c.in_ok-mark.ensures

pub bounds-seen-episode : goal.bounds-seen-episode
bounds-seen-episode c = (episode c).1

pub loop-at-preserved : goal.loop-at-preserved
loop-at-preserved c =
    let (at, noted, long) = c.loop-at.invariant in
    let here = eqb-true _ 9 (sym c.is_of.ensures ∙ c.if-is_of.true) in
    let (same, low) = episode c in (
      behind_voices_word _ _ _ c.loop-at.at at (omega arith) here _ c.in_ok-mark.ensures,
      noted_next c.args.self.log.now c.loop-at.at c.loop-at.seen _ at.behind at.within here (omega (arith, low, long)) same noted,
      length-set c.loop-at.seen _ _ ∙ long,
    )

pub returns-else-is_of : goal.returns-else-is_of
returns-else-is_of c = voices_over _ _ _ c.loop-at.at c.loop-at.invariant.0 (λ h. eqb-false _ 9 (sym c.is_of.ensures ∙ c.if-is_of.false))

pub returns-after-loop-at : goal.returns-after-loop-at
returns-after-loop-at c = voices_over _ _ _ c.loop-at.at c.loop-at.invariant.0 (λ h. absurd (omega arith))
