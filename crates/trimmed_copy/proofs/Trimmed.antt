-- What a trimmed copy call that meets the contract leaves, told by the words that it has written.
use mathlib.Core.Path.{◌≡◌, refl, sym, ap}
use mathlib.Core.Bool.{true, false}
use mathlib.Core.Logic.{◌⊎◌, inl, inr, ◌≢◌, ⊎_elim}
use lib.Dec.{eqb}
use mathlib.Core.List.{List, ◌++◌}
use Prim.Native.Nat.{ℕ}
use lib.ListN.{length, take, drop}
use Rattle.paths.specs.Graph.{Acyclic, Loop}
use Rattle.logs.specs.Answer.{given, refused, reason_number}
use Rattle.logs.specs.Log.{questions, graph_of, heard_count}
use Rattle.std.specs.Prelude.{Result, Ok, Err}
use Rattle.std.proofs.lemmas.Bool.Decides.{eqb_tells}
use Rattle.logs.specs.declared.Ceilings.{Ceilings}
use Rattle.logs.specs.declared.Refusal.{Refusal}
use Rattle.writing.proofs.Buffers.{begins_words}
use Rattle.copying.specs.FairCopy.{fair_need}
use Rattle.trimming.specs.TrimmedCopy.{trimmed_words}
use Rattle.report.specs.Report.{cleared, ShowsLoop}
use Rattle.report.proofs.Asked.{asked_given, asked_other}
use Rattle.report.proofs.Outcomes as outcomes
use Rattle.report.proofs.Outcomes.{Leaves, denied, looped, gave}
use Rattle.report.proofs.Reported.{loop_cyclic}
use Rattle.fair_copy.specs.Copied.{copy_asked}
use Rattle.trimmed_copy.specs.Trimmed.{trim_answer, TrimPasses, TrimLeft}

-- What a call with the outcome of a trimmed copy leaves: `c` is the count of its words.
pub record TrimGiven (m : Ceilings) (l o w o' w' : List ℕ) (c : ℕ) : Type 0 where
  pub passes : TrimPasses m l (length o) (length w)
  pub read : questions m l ≡ given ((graph_of l).n, heard_count l)
  pub acyclic : Acyclic (graph_of l)
  pub words : take c o' ≡ trimmed_words (graph_of l)
  pub count : c ≡ length (trimmed_words (graph_of l))
  pub unchanged : o' ≡ take c o' ++ drop c o
  pub work : w' ≡ cleared w

module _ (m : Ceilings) (l o w o' w' : List ℕ) where
  -- a log whose questions are answered yes passes the reading
  passes_read : TrimPasses m l (length o) (length w) → questions m l ≡ given ((graph_of l).n, heard_count l)
  passes_read passes = (asked_given m (λ n t v. fair_need t v) l (length o) (length w) (graph_of l).n (heard_count l) passes).0

  trimmed_left : (c : ℕ) → TrimLeft m l o w o' w' (Ok c) → TrimGiven m l o w o' w' c
  unfolding TrimLeft
  trimmed_left c (passes, (acyclic, count, begins), work) =
      let (words, unchanged) = begins_words (trimmed_words (graph_of l)) o o' begins c count in
      record {
        passes = passes;
        read = passes_read passes;
        acyclic = acyclic;
        words = words;
        count = sym count;
        unchanged = unchanged;
        work = work;
      }

  leaves : (r : Result ℕ Refusal) → TrimLeft m l o w o' w' r
      → Leaves (copy_asked m l (length o) (length w)) ((graph_of l).n, heard_count l) (TrimGiven m l o w o' w')
      (λ k. ShowsLoop (graph_of l) k o o' × (w' ≡ cleared w)) ((o' ≡ o) × (w' ≡ w)) (trim_answer r)
  unfolding TrimLeft
  leaves (Ok c) left = gave c refl left.0 (trimmed_left c left)
  leaves (Err r) left = refusal (eqb_tells (reason_number r.reason) 13)
    where
      refusal : ((eqb (reason_number r.reason) 13 ≡ true) × (reason_number r.reason ≡ 13)) ⊎ ((eqb (reason_number r.reason) 13 ≡ false) × (reason_number r.reason ≢ 13))
          → Leaves (copy_asked m l (length o) (length w)) ((graph_of l).n, heard_count l) (TrimGiven m l o w o' w')
          (λ k. ShowsLoop (graph_of l) k o o' × (w' ≡ cleared w)) ((o' ≡ o) × (w' ≡ w)) (refused (reason_number r.reason) r.place)
      refusal (inl (e, same)) = let shown = rw e at left in looped r.place (ap (λ q. refused q r.place) same) shown.0 (shown.1, shown.2)
      refusal (inr (e, other)) = let kept = rw e at left in denied (reason_number r.reason) r.place refl kept.0 (kept.1, kept.2)

  -- a call that gives a count has left a trimmed copy, and its log has no loop
  pub given_left : (r : Result ℕ Refusal) (c : ℕ) → TrimLeft m l o w o' w' r → trim_answer r ≡ given c → TrimGiven m l o w o' w' c
  given_left r c left e = (outcomes.given_gave (leaves r left) c e).1

  pub given_no_loop : (c : ℕ) → TrimGiven m l o w o' w' c → (k : List ℕ) → Loop (graph_of l) k → ⊥
  given_no_loop c d k = loop_cyclic d.acyclic

  -- a call with refusal 13 has left a loop
  pub refused_left : (r : Result ℕ Refusal) (k : ℕ) → TrimLeft m l o w o' w' r → trim_answer r ≡ refused 13 k
      → TrimPasses m l (length o) (length w) × ShowsLoop (graph_of l) k o o' × (w' ≡ cleared w)
  refused_left r k left e =
      let (passes, shown) = outcomes.refused_loop (asked_other m (λ n t v. fair_need t v) l (length o) (length w)) (leaves r left) k e in
      (passes, shown.0, shown.1)

  -- a log without a loop, whose questions are answered yes, is copied
  pub no_loop_given : (r : Result ℕ Refusal) → TrimPasses m l (length o) (length w) → ((c : List ℕ) → Loop (graph_of l) c → ⊥) → TrimLeft m l o w o' w' r
      → (c : ℕ) × (trim_answer r ≡ given c)
  no_loop_given r passes none left =
      ⊎_elim (λ (c, e, d). (c, e)) (λ (k, e, d). absurd (none d.0.0 d.0.1.loop)) (outcomes.asked_yes (leaves r left) passes)

  -- a log with a loop, whose questions are answered yes, is refused with 13
  pub loop_refused : (r : Result ℕ Refusal) (c : List ℕ) → TrimPasses m l (length o) (length w) → Loop (graph_of l) c → TrimLeft m l o w o' w' r
      → (k : ℕ) × (trim_answer r ≡ refused 13 k)
  loop_refused r c passes loop left =
      ⊎_elim (λ (d, e, g). absurd (loop_cyclic g.acyclic loop)) (λ (k, e, d). (k, e)) (outcomes.asked_yes (leaves r left) passes)

  -- a call refuses with any number but 13 exactly when the questions do
  pub refused_asked : (r : Result ℕ Refusal) (q p : ℕ) → q ≢ 13 → TrimLeft m l o w o' w' r → trim_answer r ≡ refused q p
      → (copy_asked m l (length o) (length w) ≡ refused q p) × (o' ≡ o) × (w' ≡ w)
  refused_asked r q p h left e = let (asks, same) = outcomes.refused_asked (leaves r left) q p h e in (asks, same.0, same.1)

  pub asked_refused : (r : Result ℕ Refusal) (q p : ℕ) → TrimLeft m l o w o' w' r → copy_asked m l (length o) (length w) ≡ refused q p
      → trim_answer r ≡ refused q p
  asked_refused r q p left e = outcomes.asked_refused (leaves r left) q p e
