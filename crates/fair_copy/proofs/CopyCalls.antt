-- A fair copy call by what its questions answer: from each answer to what the call leaves.
use mathlib.Core.Path.{◌≡◌, refl, sym}
use mathlib.Core.List.{List}
use Prim.Native.Nat.{ℕ, ◌≤◌}
use lib.ListN.{length}
use Rattle.std.specs.Prelude.{Ok, Err}
use Rattle.logs.specs.Answer.{given, refused, reason_number}
use Rattle.logs.specs.Log.{questions, content_of, graph_of, heard_count, voices_count}
use Rattle.logs.specs.declared.Ceilings.{Ceilings}
use Rattle.logs.specs.declared.Refusal.{Refusal}
use Rattle.logs.proofs.Laws.{graph_episodes, heard_count_words}
use Rattle.writing.specs.Layout.{BeginsWith}
use Rattle.copying.specs.FairCopy.{fair_words, fair_need}
use Rattle.report.specs.Report.{work_words, cleared}
use Rattle.fair_copy.specs.Copied.{copy_asked, CopyLeft}
use Rattle.report.proofs.Asked.{asked_given}

-- refused
pub copy_refused : (m : Ceilings) (l o w : List ℕ) (r : Refusal) → copy_asked m l (length o) (length w) ≡ refused (reason_number r.reason) r.place
    → CopyLeft m l o w o w (Err r)
unfolding CopyLeft
copy_refused m l o w r e = (e, refl, refl)

-- where the questions are answered yes, those of the log are, and the lent buffers are long enough
pub copy_passed : (m : Ceilings) (l : List ℕ) {out work n t : ℕ} → given (n, t) ≡ copy_asked m l out work
    → (questions m l ≡ given (n, t)) × (fair_need t (voices_count l) ≤ out) × (work_words ≤ work)
copy_passed m l {out} {work} {n} {t} e = asked_given m (λ j u v. fair_need u v) l out work n t (sym e)

-- questions that are answered yes were asked of the graph
pub asked_graph : (m : Ceilings) (l : List ℕ) (out work n t : ℕ) → copy_asked m l out work ≡ given (n, t)
    → copy_asked m l out work ≡ given ((graph_of l).n, heard_count l)
asked_graph m l out work n t e =
    let read = (asked_given m (λ j u v. fair_need u v) l out work n t e).0 in
    rw (graph_episodes m l n t read, heard_count_words m l n t read) e

-- copied
pub copy_left : (m : Ceilings) (l o w : List ℕ) (n t : ℕ) → copy_asked m l (length o) (length w) ≡ given (n, t) → (o' : List ℕ) {w' : List ℕ} {c : ℕ}
    → c ≡ length (fair_words (content_of l)) → BeginsWith (fair_words (content_of l)) o o' → w' ≡ cleared w → CopyLeft m l o w o' w' (Ok c)
unfolding CopyLeft
copy_left m l o w n t e o' count begins clean = (asked_graph m l (length o) (length w) n t e, sym count, begins, clean)
