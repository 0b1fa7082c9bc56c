-- What a text call leaves, told by its outcome: the text, and the figures that are read back from it.
use mathlib.Core.Path.{◌≡◌, refl, sym, ap, ap₂, subst, ◌∙◌}
use mathlib.Core.List.{List, [], ◌∷◌, ◌++◌, append-nil}
use mathlib.Core.List.Memᴰ.{head as here, tail as there}
use Prim.Native.Nat.{ℕ, ◌^◌, ◌≤◌, ◌<◌}
use native.Mathlib.Omega.{arith}
use lib.Chars.{codes}
use lib.ListN.{length, take, drop, get_or}
use Rattle.std.specs.Fmt.{digits}
use Rattle.std.specs.Prelude.{Ok}
use Rattle.paths.specs.Graph.{Graph}
use Rattle.paths.specs.Links.{link_count}
use Rattle.paths.proofs.Theorems.{count_few}
use Rattle.logs.specs.Words.{number}
use Rattle.logs.specs.Answer.{Answer, given, refused}
use Rattle.logs.specs.Log.{service, graph_of, heard_count}
use Rattle.logs.proofs.Asked.{not_both}
use Rattle.logs.specs.declared.Ceilings.{Ceilings}
use Rattle.logs.proofs.Laws.{graph_links_few, words_small}
use Rattle.writing.specs.Layout.{report_words, apart_of, threads_of}
use Rattle.writing.proofs.Buffers.{begins_words}
use Rattle.report.specs.Report.{outcome_answer, Left}
use Rattle.report.specs.Accepted.{LentEnough}
use Rattle.report.specs.declared.Outcome.{Outcome}
use Rattle.report.specs.declared.Outcome.TheVariants.{Report, Loop as Looped, Refused}
use Rattle.report.proofs.Reported.{ReportLeft, given_left, refused_left, report_accepted}
use Rattle.input.specs.Input.{words_of}
use Rattle.input.proofs.Laws.{whole_example}
use Rattle.text.specs.Text.{report_text, refusal_text, loop_text, outcome_text}
use Rattle.text.specs.ReadBack.{pieces, text_figures}
use Rattle.text.specs.Printed.{text_bytes, whole_words, Called, TextLeft}
use Rattle.text.specs.declared.Printed.{Printed}
use Rattle.text.proofs.ReadBack.{at_read, report_read}
use Rattle.text.proofs.ReadBack as reading
use Rattle.text.proofs.Room.{refusal_length}
use Rattle.text.proofs.Fits.{report_fits, loop_fits}
use Rattle.promises.proofs.SmallLogs.{small_logs}

-- No text is empty.
outcome_some : (g : Graph) (o : List ℕ) (r : Outcome) → 0 < length (outcome_text g o r)
unfolding outcome_text report_text refusal_text loop_text
outcome_some g o (Report c) = omega arith
outcome_some g o (Looped c) = omega arith
outcome_some g o (Refused q p) = omega arith

-- The figures of a report: n, the link count, the width, the apart set and the threads.
abbrev pub report_figures : List ℕ → List ℕ → List (List ℕ)
report_figures l ws =
    ((graph_of l).n ∷ []) ∷ (link_count (graph_of l) ∷ []) ∷ (number (get_or ws 0 0) ∷ []) ∷ apart_of ws ∷ threads_of ws

-- A report is the outcome of a report call.
called_report : (m : Ceilings) (b o w o' w' : List ℕ) (c : ℕ) (a : Answer ℕ) → Called m b o w o' w' (Report c) a
    → Left m (words_of b) o w o' w' (Report c)
called_report m b o w o' w' c (given n) called = called
called_report m b o w o' w' c (refused q p) called = absurd (not_refused called.0)
  where
    not_refused : Report c ≡ Refused q p → ⊥
    not_refused e = let none : ◌≡◌ {A = ℕ} 0 1 = cc in omega arith

module _ (m : Ceilings) (b t o w t' o' w' : List ℕ) (p : Printed) (left : TextLeft m b t o w t' o' w' (Ok p)) where
  pub text_part : (take p.bytes t' ≡ outcome_text (graph_of (words_of b)) o' p.outcome) × (t' ≡ take p.bytes t' ++ drop p.bytes t)
  unfolding TextLeft
  text_part = begins_words _ t t' left.3 p.bytes left.2

  pub text_some : 0 < p.bytes
  unfolding TextLeft
  text_some = omega (arith, left.2, outcome_some (graph_of (words_of b)) o' p.outcome)

  pub text_refused_bytes : (q k : ℕ) → whole_words b ≡ refused q k → (p.outcome ≡ Refused q k) × (o' ≡ o) × (w' ≡ w)
  unfolding TextLeft
  text_refused_bytes q k e = subst (Called m b o w o' w' p.outcome) e left.1

  pub text_call : (n : ℕ) → whole_words b ≡ given n → Left m (words_of b) o w o' w' p.outcome
  unfolding TextLeft
  text_call n e = subst (Called m b o w o' w' p.outcome) e left.1

  module _ (c : ℕ) (is : p.outcome ≡ Report c) where
    pub text_report : ReportLeft m (words_of b) o w o' w' c
    unfolding TextLeft
    text_report =
        given_left m (words_of b) o w o' w' (Report c) c (called_report m b o w o' w' c (whole_words b) (rw is at left.1)) refl

    links_small : link_count (graph_of (words_of b)) < 2 ^ 64
    links_small =
        let l : List ℕ = words_of b in
        let read = (report_accepted m l o w o' w' c text_report).read in
        omega (
          arith,
          count_few (graph_of l),
          graph_links_few m l (graph_of l).n (heard_count l) read,
          words_small m l (graph_of l).n (heard_count l) read,
        )

    pub text_read : text_figures (take p.bytes t') ≡ report_figures (words_of b) (take c o')
    unfolding outcome_text
    text_read =
        let text = text_part.0 in
        rw (text, is) (report_read (graph_of (words_of b)).n (link_count (graph_of (words_of b))) (take c o') (omega arith) links_small)

-- Two calls with reports.
module _ (m m₂ : Ceilings) (b t o w t' o' w' b₂ t₂ o₂ w₂ t₂' o₂' w₂' : List ℕ) (p p₂ : Printed) (left : TextLeft m b t o w t' o' w' (Ok p))
    (left₂ : TextLeft m₂ b₂ t₂ o₂ w₂ t₂' o₂' w₂' (Ok p₂)) (c c₂ : ℕ) (is : p.outcome ≡ Report c) (is₂ : p₂.outcome ≡ Report c₂) where
  pub same_text : take p.bytes t' ≡ take p₂.bytes t₂'
      → ((graph_of (words_of b)).n ≡ (graph_of (words_of b₂)).n) × (link_count (graph_of (words_of b)) ≡ link_count (graph_of (words_of b₂)))
      × (take c o' ≡ take c₂ o₂')
  same_text same =
      let figures : report_figures (words_of b) (take c o') ≡ report_figures (words_of b₂) (take c₂ o₂') =
      sym (text_read m b t o w t' o' w' p left c is) ∙ ap text_figures same ∙ text_read m₂ b₂ t₂ o₂ w₂ t₂' o₂' w₂' p₂ left₂ c₂ is₂ in (
        ap (λ (ls : List (List ℕ)). get_or (get_or ls 0 []) 0 0) figures,
        ap (λ (ls : List (List ℕ)). get_or (get_or ls 1 []) 0 0) figures,
        (text_report m b t o w t' o' w' p left c is).words
            ∙ ap₂ report_words (ap (λ (ls : List (List ℕ)). get_or ls 3 []) figures) (ap (drop 4) figures)
            ∙ sym (text_report m₂ b₂ t₂ o₂ w₂ t₂' o₂' w₂' p₂ left₂ c₂ is₂).words,
      )

pub refusal_read : (q p : ℕ) → q < 2 ^ 64 → p < 2 ^ 64 → text_figures (refusal_text q p) ≡ (q ∷ at_read ∷ p ∷ []) ∷ []
unfolding pieces
refusal_read q p few small = ap text_figures (sym (append-nil (refusal_text q p))) ∙ reading.refusal_read q p few small []

-- Every text fits.
pub report_text_fits : (l o w o' w' : List ℕ) (c : ℕ) → Left service l o w o' w' (Report c)
    → length (report_text (graph_of l).n (link_count (graph_of l)) (take c o')) ≤ text_bytes
report_text_fits l o w o' w' c left = report_fits l o w o' w' c (given_left service l o w o' w' (Report c) c left refl)

pub loop_text_fits : (l o w o' w' : List ℕ) (c : ℕ) → Left service l o w o' w' (Looped c) → length (loop_text c (take c (drop 1 o'))) ≤ text_bytes
loop_text_fits l o w o' w' c left = loop_fits l o w o' w' c (refused_left service l o w o' w' (Looped c) c left refl)

pub refusal_text_fits : (q p : ℕ) → q < 2 ^ 32 → p < 2 ^ 64 → length (refusal_text q p) ≤ text_bytes
refusal_text_fits q p few small = omega (arith, refusal_length q p few small)

-- The scope's whole example: its bytes, and its report's words.
abbrev pub example_bytes : List ℕ
example_bytes = 5 ∷ 0 ∷ 0 ∷ 16 ∷ 0 ∷ 0 ∷ 0 ∷ 32 ∷ 1 ∷ 0 ∷ 0 ∷ 48 ∷ 2 ∷ 0 ∷ 0 ∷ 32 ∷ 3 ∷ 0 ∷ 0 ∷ 48 ∷ 2 ∷ 0 ∷ 0 ∷ 240 ∷ []

abbrev pub example_report : List ℕ
example_report =
    0x40000003 ∷ 0x50000001 ∷ 0x50000003 ∷ 0x50000004
    ∷ 0x60000002 ∷ 0x70000000 ∷ 0x70000001 ∷ 0x60000002 ∷ 0x70000002 ∷ 0x70000003 ∷ 0x60000001 ∷ 0x70000004
    ∷ 0xF000000C ∷ []

abbrev pub example_lines : List ℕ
example_lines = codes "episodes 5\nlinks 2\nwidth 3\napart 1 3 4\nthread 0 1\nthread 2 3\nthread 4\n"

pub example_text : report_text 5 2 example_report ≡ example_lines
unfolding report_text apart_of threads_of digits
example_text = refl

report_given : (r : Outcome) (c : ℕ) → outcome_answer r ≡ given c → r ≡ Report c
report_given (Report d) c e = let same : d ≡ c = cc in ap Report same
report_given (Looped d) c e = absurd (not_both (given c) c 13 d refl (sym e))
report_given (Refused q d) c e = absurd (not_both (given c) c q d refl (sym e))

-- Every call on it prints its seven lines, where the output and the work words are long enough.
pub example_printed : (t o w t' o' w' : List ℕ) (p : Printed) → TextLeft service example_bytes t o w t' o' w' (Ok p)
    → LentEnough (words_of example_bytes) (length o) (length w) → take p.bytes t' ≡ example_lines
unfolding outcome_text
example_printed t o w t' o' w' p left enough =
    let right = small_logs _ (there (there (here refl))) in
    let call = text_call service example_bytes t o w t' o' w' p left 6 refl in
    let shown = right.2 o w o' w' p.outcome (rw whole_example at call) (rw whole_example at enough) in
    (text_part service example_bytes t o w t' o' w' p left).0
    ∙ ap (outcome_text (graph_of (words_of example_bytes)) o') (report_given p.outcome 13 shown.0)
    ∙ ap (λ (l : List ℕ). report_text (graph_of l).n (link_count (graph_of l)) (take 13 o')) whole_example
    ∙ ap (λ (k : ℕ). report_text 5 k (take 13 o')) right.1
    ∙ ap (λ (x : List ℕ). report_text 5 2 (take 13 x)) shown.1
    ∙ example_text
