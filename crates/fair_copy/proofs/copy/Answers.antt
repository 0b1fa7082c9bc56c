-- `fair_copy::copy` meets its contract: the work words are made zero last. Assumes nothing.
use mathlib.Core.Path.{◌≡◌}
use native.Mathlib.Omega.{arith}
use lib.ListN.{length}
use Rattle.logs.proofs.Laws.{graph_episodes}
use Rattle.logs.proofs.WellFormed.{passes_passed}
use Rattle.report.specs.Report.{work_words}
use Rattle.fair_copy.proofs.copy.Goals as goal

pub write_copy-words-requires : goal.write_copy-words-requires
write_copy-words-requires c =
    let l = c.args.log in (
      passes_passed l.words.now l.episodes l.to_words c.requires.0 l.passes,
      graph_episodes _ l.words.now l.episodes l.to_words l.passes,
      omega arith,
      c.requires.1,
    )

pub returns : goal.returns
returns c =
    let long : length c.write_copy-words.new.w ≡ work_words = omega arith in
    (c.write_copy-words.ensures.0, c.write_copy-words.ensures.1, rw long at c.clear.ensures)
