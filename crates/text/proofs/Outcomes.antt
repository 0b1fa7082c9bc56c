-- What printing an outcome needs to know: the log has a head and a link count, and the words to print stand within the output.
use mathlib.Core.Path.{◌≡◌, refl, sym, ap, ◌∙◌}
use mathlib.Core.List.{List, ◌++◌}
use Prim.Native.Nat.{ℕ, ◌+◌, ◌<◌, ◌≤◌}
use native.Mathlib.Omega.{arith}
use lib.ListN.{length, take, drop, length-append}
use Rattle.std.specs.Prelude.{Result, Ok, Err}
use Rattle.logs.specs.Answer.{given}
use Rattle.logs.specs.Log.{service, questions, graph_of, heard_count}
use Rattle.logs.specs.declared.Refusal.{Refusal}
use Rattle.logs.proofs.Asked.{given_then, not_both}
use Rattle.logs.proofs.Laws.{well_formed}
use Rattle.paths.specs.Links.{link_count}
use Rattle.link_count.specs.Counted.{count_answer, count_asked}
use Rattle.writing.specs.Layout.{loop_words}
use Rattle.writing.proofs.Layouts.{length_loop}
use Rattle.report.specs.declared.Outcome.{Outcome}
use Rattle.report.specs.declared.Outcome.TheVariants.{Report, Loop as Looped}
use Rattle.report.proofs.Reported.{given_left, refused_left, report_accepted}
use Rattle.text.specs.Text.{report_text, loop_text}
use Rattle.text.specs.Printed.{text_bytes}
use Rattle.text.specs.Put.{Reads, Shows}
use Rattle.text.proofs.Fits.{report_fits, loop_fits}

module _ (l : List ℕ) (reads : Reads l) where
  pub head_there : 0 < length l
  head_there = omega (arith, (well_formed service l (graph_of l).n (heard_count l) reads).long)

  pub links_counted : (r : Result ℕ Refusal) → count_answer r ≡ count_asked service l → r ≡ Ok (link_count (graph_of l))
  links_counted (Ok k) e =
      let same : given k ≡ given (link_count (graph_of l)) = e ∙ given_then (questions service l) _ _ _ reads refl in
      ap Ok (given_same same)
    where
      given_same : {x y : ℕ} → given x ≡ given y → x ≡ y
      given_same f = cc
  links_counted (Err r) e = absurd (not_both _ _ _ _ (e ∙ given_then (questions service l) _ _ _ reads refl) refl)

  pub links_are : (r : Result ℕ Refusal) (k : ℕ) → count_answer r ≡ count_asked service l → r ≡ Ok k → k ≡ link_count (graph_of l)
  links_are r k e ok = ok_same (sym ok ∙ links_counted r e)
    where
      ok_same : {x y : ℕ} → ◌≡◌ {A = Result ℕ Refusal} (Ok x) (Ok y) → x ≡ y
      ok_same f = cc

begins_within : (words behind all : List ℕ) (c : ℕ) → length words ≡ c → all ≡ words ++ behind → c ≤ length all
begins_within words behind all c count begins = let e = length-append words behind in rw begins (omega arith)

module _ (l o' : List ℕ) (r : Outcome) (shows : Shows l o' r) where
  -- a report stands within the output, its log has passed, and there is room for its text
  pub shown_report : (c : ℕ) → r ≡ Report c
      → Reads l × (c ≤ length o') × (length (report_text (graph_of l).n (link_count (graph_of l)) (take c o')) ≤ text_bytes)
  shown_report c is =
      let (o, w, w', left) = rw is at shows in
      let d = given_left service l o w o' w' (Report c) c left refl in (
        (report_accepted service l o w o' w' c d).read,
        begins_within (take c o') (drop c o) o' c d.count d.unchanged,
        report_fits l o w o' w' c d,
      )

  -- and so a loop
  pub shown_loop : (c : ℕ) → r ≡ Looped c → (c + 1 ≤ length o') × (length (loop_text c (take c (drop 1 o'))) ≤ text_bytes)
  shown_loop c is =
      let (o, w, w', left) = rw is at shows in
      let d = refused_left service l o w o' w' (Looped c) c left refl in (
        begins_within (loop_words d.loop) _ o' (c + 1) (omega (arith, length_loop d.loop, d.count)) d.begins.1,
        loop_fits l o w o' w' c d,
      )
