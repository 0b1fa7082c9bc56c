-- Accepted logs, and lent buffers that pass.
use Rattle.std.specs.Prelude.{◌≡◌, List, ℕ, ◌≤◌}
use Rattle.paths.specs.Graph.{Loop}
use Rattle.logs.specs.Answer.{given}
use Rattle.logs.specs.Log.{questions, graph_of, heard_count, voices_count}
use Rattle.logs.specs.declared.Ceilings.{Ceilings}
use Rattle.writing.specs.Layout.{report_need}
use Rattle.report.specs.Report.{work_words}

-- An accepted log: every question but 11 and 12, which look at the lent buffers, is answered yes.
pub record Accepted (m : Ceilings) (l : List ℕ) : Type 0 where
  pub read : questions m l ≡ given ((graph_of l).n, heard_count l)
  pub no_loop : (c : List ℕ) → Loop (graph_of l) c → ⊥

-- Questions 11 and 12 of a report call on the log `l`, with `out` and `work` words lent, are answered yes.
abbrev pub LentEnough : List ℕ → ℕ → ℕ → Type 0
LentEnough l out work = (report_need (graph_of l).n (voices_count l) ≤ out) × (work_words ≤ work)
