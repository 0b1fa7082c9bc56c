-- `report::solve` meets its contract: the work words are made zero last. Assumes nothing.
use mathlib.Core.Path.{◌≡◌, ap, ◌∙◌}
use Prim.Native.Nat.{ℕ}
use native.Mathlib.Omega.{arith}
use lib.ListN.{length, replicate}
use Rattle.logs.proofs.Laws.{graph_episodes}
use Rattle.logs.proofs.WellFormed.{passes_passed}
use Rattle.report.specs.Report.{work_words}
use Rattle.report.proofs.solve.Goals as goal

pub prepare-requires : goal.prepare-requires
prepare-requires g c =
    let l = c.args.log in
    let few = c.requires.0 in (
      passes_passed l.words.now l.episodes l.to_words (omega arith) l.passes,
      graph_episodes _ l.words.now l.episodes l.to_words l.passes,
      few,
      omega arith,
    )

pub returns-clause-cleared : goal.returns-clause-cleared
returns-clause-cleared g c =
    let long : length c.answer-result.new.arg4 ≡ work_words = omega arith in
    c.clear.ensures ∙ ap (λ (k : ℕ). replicate k 0) long
