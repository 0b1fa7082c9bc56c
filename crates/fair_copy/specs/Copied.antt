-- What a fair copy call gives and leaves.
use Rattle.std.specs.Prelude.{◌≡◌, Result, Ok, Err, List, ℕ, length}
use Rattle.logs.specs.Answer.{Answer, given, refused, reason_number, result_answer}
use Rattle.logs.specs.Log.{content_of, graph_of, heard_count}
use Rattle.logs.specs.declared.Ceilings.{Ceilings}
use Rattle.logs.specs.declared.Refusal.{Refusal}
use Rattle.writing.specs.Layout.{BeginsWith}
use Rattle.copying.specs.FairCopy.{fair_words, fair_need}
use Rattle.report.specs.Report.{asked, cleared}

-- The outcome of a fair copy call in numbers: the count of the copy's words, or a refusal.
abbrev pub copy_answer : Result ℕ Refusal → Answer ℕ
copy_answer = result_answer (λ c. c)

-- Questions 1 to 12 and 18 to 21 of a fair copy call.
abbrev pub copy_asked : Ceilings → List ℕ → ℕ → ℕ → Answer (ℕ × ℕ)
copy_asked m l out work = asked m (λ n t v. fair_need t v) l out work

-- What a fair copy call leaves, by its outcome: `l` is the log, `o` and `w` are the buffers at entry, `o'` and `w'` at exit.
unfoldable pub CopyLeft : Ceilings → List ℕ → List ℕ → List ℕ → List ℕ → List ℕ → Result ℕ Refusal → Type 0
CopyLeft m l o w o' w' (Err r) = (copy_asked m l (length o) (length w) ≡ refused (reason_number r.reason) r.place) × (o' ≡ o) × (w' ≡ w)
CopyLeft m l o w o' w' (Ok c) =
    (copy_asked m l (length o) (length w) ≡ given ((graph_of l).n, heard_count l))
    × (length (fair_words (content_of l)) ≡ c) × BeginsWith (fair_words (content_of l)) o o' × (w' ≡ cleared w)
