-- What a trimmed copy call gives and leaves.
use Rattle.std.specs.Prelude.{◌≡◌, Bool, true, false, Result, Ok, Err, List, ℕ, eqb, length}
use Rattle.paths.specs.Graph.{Graph, Acyclic}
use Rattle.logs.specs.Answer.{Answer, given, refused, reason_number, result_answer}
use Rattle.logs.specs.Log.{graph_of, heard_count}
use Rattle.logs.specs.declared.Ceilings.{Ceilings}
use Rattle.logs.specs.declared.Refusal.{Refusal}
use Rattle.writing.specs.Layout.{BeginsWith}
use Rattle.trimming.specs.TrimmedCopy.{trimmed_words}
use Rattle.report.specs.Report.{cleared, ShowsLoop}
use Rattle.fair_copy.specs.Copied.{copy_asked}

-- The outcome of a trimmed copy call in numbers: the count of the copy's words, or a refusal. A loop is refusal 13 at its length.
abbrev pub trim_answer : Result ℕ Refusal → Answer ℕ
trim_answer = result_answer (λ c. c)

-- questions 1 to 12 and 18 to 21, which are those of a fair copy call, are answered yes
abbrev pub TrimPasses : Ceilings → List ℕ → ℕ → ℕ → Type 0
TrimPasses m l out work = copy_asked m l out work ≡ given ((graph_of l).n, heard_count l)

-- `g` has no loop, and the output begins with its trimmed copy, in `c` words
abbrev pub ShowsTrimmed : Graph → ℕ → List ℕ → List ℕ → Type 0
ShowsTrimmed g c o o' = Acyclic g × (length (trimmed_words g) ≡ c) × BeginsWith (trimmed_words g) o o'

-- What a trimmed copy call leaves that is refused: `l` is the log, `o` and `w` are the buffers at entry, `o'` and `w'` at exit, and the
-- first case is that of refusal 13.
abbrev pub TrimRefused : Ceilings → List ℕ → List ℕ → List ℕ → List ℕ → List ℕ → Bool → ℕ → ℕ → Type 0
TrimRefused m l o w o' w' true q p = TrimPasses m l (length o) (length w) × ShowsLoop (graph_of l) p o o' × (w' ≡ cleared w)
TrimRefused m l o w o' w' false q p = (copy_asked m l (length o) (length w) ≡ refused q p) × (o' ≡ o) × (w' ≡ w)

-- What a trimmed copy call leaves, by its outcome.
unfoldable pub TrimLeft : Ceilings → List ℕ → List ℕ → List ℕ → List ℕ → List ℕ → Result ℕ Refusal → Type 0
TrimLeft m l o w o' w' (Err r) = let q = reason_number r.reason in TrimRefused m l o w o' w' (eqb q 13) q r.place
TrimLeft m l o w o' w' (Ok c) = TrimPasses m l (length o) (length w) × ShowsTrimmed (graph_of l) c o o' × (w' ≡ cleared w)
