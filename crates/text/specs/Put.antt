-- What the functions inside the crate write, and what they need.
use Rattle.std.specs.Prelude.{◌≡◌, List, ◌++◌, ℕ, length}
use Rattle.logs.specs.Answer.{given}
use Rattle.logs.specs.Log.{service, questions, graph_of, heard_count}
use Rattle.writing.specs.Layout.{BeginsWith}
use Rattle.report.specs.Report.{Left}
use Rattle.report.specs.declared.Outcome.{Outcome}

-- the buffer `t'` begins with `ws`, of which there are `r`, and is behind them as `t` was
pub record Put (ws t t' : List ℕ) (r : ℕ) : Type 0 where
  pub size : r ≡ length ws
  pub words : BeginsWith ws t t'

-- of the text `whole` all but `rest` has been written, in `r` bytes
pub record Putting (whole rest t t' : List ℕ) (r : ℕ) : Type 0 where
  pub done : List ℕ
  pub put : Put done t t' r
  pub split : done ++ rest ≡ whole

-- the log `l` answers 1 to 10 and 18 to 21 yes
abbrev pub Reads : List ℕ → Type 0
Reads l = questions service l ≡ given ((graph_of l).n, heard_count l)

-- the output `o'` and the outcome `r` are those of a report call on the log `l`
abbrev pub Shows : List ℕ → List ℕ → Outcome → Type 0
Shows l o' r = (o : List ℕ) × (w : List ℕ) × (w' : List ℕ) × Left service l o w o' w' r
