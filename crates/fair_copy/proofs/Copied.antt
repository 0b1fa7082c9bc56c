-- What a fair copy call that meets the contract leaves, told by the words that it has written.
use mathlib.Core.Path.{◌≡◌, refl, sym}
use mathlib.Core.Logic.{⊎_elim}
use mathlib.Core.List.{List, ◌++◌}
use Prim.Native.Nat.{ℕ}
use lib.ListN.{length, take, drop}
use Rattle.logs.specs.Answer.{given, refused, reason_number}
use Rattle.logs.specs.Log.{questions, content_of, graph_of, heard_count}
use Rattle.std.specs.Prelude.{Result, Ok, Err}
use Rattle.logs.specs.declared.Ceilings.{Ceilings}
use Rattle.logs.specs.declared.Refusal.{Refusal}
use Rattle.writing.proofs.Buffers.{begins_words}
use Rattle.copying.specs.FairCopy.{fair_words, fair_need}
use Rattle.report.specs.Report.{cleared}
use Rattle.fair_copy.specs.Copied.{copy_answer, copy_asked, CopyLeft}
use Rattle.report.proofs.Asked.{asked_given}
use Rattle.report.proofs.Outcomes as outcomes
use Rattle.report.proofs.Outcomes.{Leaves, denied, gave}

-- What a call with the outcome of a copy leaves: `c` is the count of its words.
pub record CopyGiven (m : Ceilings) (l o w o' w' : List ℕ) (c : ℕ) : Type 0 where
  pub passes : copy_asked m l (length o) (length w) ≡ given ((graph_of l).n, heard_count l)
  pub read : questions m l ≡ given ((graph_of l).n, heard_count l)
  pub words : take c o' ≡ fair_words (content_of l)
  pub count : c ≡ length (fair_words (content_of l))
  pub unchanged : o' ≡ take c o' ++ drop c o
  pub work : w' ≡ cleared w

module _ (m : Ceilings) (l o w o' w' : List ℕ) where
  copied_left : (c : ℕ) → CopyLeft m l o w o' w' (Ok c) → CopyGiven m l o w o' w' c
  unfolding CopyLeft
  copied_left c (passes, count, begins, work) =
      let (words, unchanged) = begins_words (fair_words (content_of l)) o o' begins c count in
      record {
        passes = passes;
        read = (asked_given m (λ n t v. fair_need t v) l (length o) (length w) (graph_of l).n (heard_count l) passes).0;
        words = words;
        count = sym count;
        unchanged = unchanged;
        work = work;
      }

  leaves : (r : Result ℕ Refusal) → CopyLeft m l o w o' w' r
      → Leaves (copy_asked m l (length o) (length w)) ((graph_of l).n, heard_count l) (CopyGiven m l o w o' w') (λ k. ⊥) ((o' ≡ o) × (w' ≡ w))
      (copy_answer r)
  unfolding CopyLeft
  leaves (Ok c) left = gave c refl left.0 (copied_left c left)
  leaves (Err r) left = denied (reason_number r.reason) r.place refl left.0 (left.1, left.2)

  -- a call that gives a count has left a copy
  pub given_left : (r : Result ℕ Refusal) (c : ℕ) → CopyLeft m l o w o' w' r → copy_answer r ≡ given c → CopyGiven m l o w o' w' c
  given_left r c left e = (outcomes.given_gave (leaves r left) c e).1

  -- a call whose questions are answered yes gives a count
  pub asked_given_count : (r : Result ℕ Refusal) → copy_asked m l (length o) (length w) ≡ given ((graph_of l).n, heard_count l)
      → CopyLeft m l o w o' w' r → (c : ℕ) × (copy_answer r ≡ given c)
  asked_given_count r passes left =
      ⊎_elim (λ (c, e, d). (c, e)) (λ (k, e, none). absurd none) (outcomes.asked_yes (leaves r left) passes)

  -- a call refuses exactly when its questions do
  pub refused_asked : (r : Result ℕ Refusal) (q p : ℕ) → CopyLeft m l o w o' w' r → copy_answer r ≡ refused q p
      → (copy_asked m l (length o) (length w) ≡ refused q p) × (o' ≡ o) × (w' ≡ w)
  refused_asked r q p left e =
      ⊎_elim (λ (asks, same). (asks, same.0, same.1)) (λ (number, passes, none). absurd none) (outcomes.refused_by (leaves r left) q p e)

  pub asked_refused : (r : Result ℕ Refusal) (q p : ℕ) → CopyLeft m l o w o' w' r → copy_asked m l (length o) (length w) ≡ refused q p
      → copy_answer r ≡ refused q p
  asked_refused r q p left e = outcomes.asked_refused (leaves r left) q p e
