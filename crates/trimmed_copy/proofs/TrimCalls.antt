-- A trimmed copy call by what its questions answer: from each answer to what the call leaves.
use mathlib.Core.Path.{◌≡◌, refl}
use mathlib.Core.List.{List}
use Prim.Native.Nat.{ℕ, ◌≤◌}
use native.Mathlib.Omega.{arith}
use lib.ListN.{length}
use Rattle.paths.specs.Graph.{Graph}
use Rattle.logs.specs.Answer.{given, refused, reason_number}
use Rattle.logs.specs.Log.{questions, graph_of, voices_count}
use Rattle.std.specs.Prelude.{Result, Ok, Err}
use borrow.Author.Tests.{ne_eqb}
use Rattle.logs.specs.declared.Ceilings.{Ceilings}
use Rattle.logs.specs.declared.Refusal.{Refusal}
use Rattle.report.proofs.Asked.{asked_other}
use Rattle.copying.specs.FairCopy.{fair_need}
use Rattle.logs.proofs.Laws.{words_small, graph_episodes, graph_links_few, voices_few}
use Rattle.writing.proofs.Layouts.{length_loop}
use Rattle.trimming.specs.Trimming.{Held}
use Rattle.trimming.proofs.TrimmedCopies.{trim_fits, trim_loop_fits}
use Rattle.report.specs.Report.{cleared}
use Rattle.report.specs.Solving.{Ready}
use Rattle.fair_copy.specs.Copied.{copy_asked}
use Rattle.fair_copy.proofs.CopyCalls.{asked_graph}
use Rattle.trimmed_copy.specs.Trimmed.{TrimLeft}
use Rattle.trimmed_copy.specs.Answering.{Room, TrimAnswered}

-- the links, the ways and the voices stand where the trimming looks for them
pub held : {g : Graph} {n k : ℕ} {w : List ℕ} → Ready g n w → Room g k → Held g n w
held ready room =
    record {
      count = ready.count;
      few = omega (arith, ready.few);
      small = room.small;
      long = omega (arith, ready.long);
      ends = ready.ends;
      links = ready.links;
      ways = ready.ways;
      voices = ready.voices;
      small_voices = λ v h. room.small_voices v (rw ready.count h);
    }

-- the words that question 11 asks for have room for the copy and for each loop
pub enough : (m : Ceilings) (l : List ℕ) (n t k : ℕ) → questions m l ≡ given (n, t) → fair_need t (voices_count l) ≤ k → Room (graph_of l) k
enough m l n t k e h =
    record {
      small = omega (arith, graph_links_few m l n t e, words_small m l n t e);
      small_voices = λ v h. omega (arith, voices_few m l n t e v (rw (graph_episodes m l n t e) at h));
      copy = omega (arith, trim_fits m l n t e);
      loop = λ c o. omega (arith, trim_loop_fits m l n t e c o, length_loop c);
    }

-- refused
pub trim_refused : (m : Ceilings) (l o w : List ℕ) (r : Refusal) → copy_asked m l (length o) (length w) ≡ refused (reason_number r.reason) r.place
    → TrimLeft m l o w o w (Err r)
unfolding TrimLeft
trim_refused m l o w r e =
    rw (ne_eqb (reason_number r.reason) 13 (asked_other m (λ n t v. fair_need t v) l (length o) (length w) (reason_number r.reason) r.place e)) (e, refl, refl)

-- answered
pub trim_left : (m : Ceilings) (l o w : List ℕ) (n t : ℕ) → copy_asked m l (length o) (length w) ≡ given (n, t) → (o' : List ℕ) {w' : List ℕ}
    → (r : Result ℕ Refusal) → TrimAnswered (graph_of l) o o' r → w' ≡ cleared w → TrimLeft m l o w o' w' r
unfolding TrimLeft
trim_left m l o w n t e o' (Ok c) d f = (asked_graph m l (length o) (length w) n t e, d, f)
trim_left m l o w n t e o' (Err r) d f = rw d.0 (asked_graph m l (length o) (length w) n t e, d.1, f)
