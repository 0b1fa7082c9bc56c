-- A text call by its cases: the text buffer is too short, the bytes are refused, or a report call is made on their words.
use mathlib.Core.Path.{◌≡◌, refl, sym, ap, subst}
use mathlib.Core.List.{List}
use Prim.Native.Nat.{ℕ, ◌/◌, ◌<◌, ◌≤◌}
use lib.ListN.{length, take}
use Rattle.std.specs.Prelude.{Result, Ok, Err}
use Rattle.logs.specs.Answer.{given, refused, reason_number}
use Rattle.logs.specs.Log.{service, graph_of}
use Rattle.logs.specs.declared.Reason.TheVariants.{OutputTooShort}
use Rattle.logs.specs.declared.Refusal.{Refusal}
use Rattle.report.specs.Report.{Left}
use Rattle.report.specs.declared.Outcome.{Outcome}
use Rattle.report.specs.declared.Outcome.TheVariants.{Refused}
use Rattle.input.specs.Input.{most_bytes, words_of, WordsTaken}
use Rattle.input.proofs.Laws.{bytes_in_words}
use Rattle.text.specs.Text.{outcome_text, refusal_text}
use Rattle.text.specs.Put.{Put}
use Rattle.text.specs.Printed.{text_bytes, whole_words, Called, TextLeft}
use Rattle.text.specs.declared.Printed.{Printed}

module _ (b t o w : List ℕ) where
  pub left_short : (e : Refusal) → e ≡ record { reason = OutputTooShort; place = text_bytes } → length t < text_bytes
      → TextLeft service b t o w t o w (Err e)
  unfolding TextLeft
  left_short e is short = (short, ap (λ (r : Refusal). reason_number r.reason) is, ap (λ (r : Refusal). r.place) is, refl, refl, refl)

  module _ (words words' : List ℕ) (lent : length words ≡ most_bytes / 4) (enough : text_bytes ≤ length t) where
    pub left_called : (t' o' w' : List ℕ) (n : ℕ) (p : Printed) (r : Result ℕ Refusal) → WordsTaken b words words' r → r ≡ Ok n
        → Left service (take n words') o w o' w' p.outcome → Put (outcome_text (graph_of (take n words')) o' p.outcome) t t' p.bytes
        → TextLeft service b t o w t' o' w' (Ok p)
    unfolding TextLeft
    left_called t' o' w' n p r taken ok call put =
        let z : WordsTaken b words words' (Ok n) = rw ok at taken in
        let same : take n words' ≡ words_of b = (bytes_in_words b words words' n z).words in
        let asks : given n ≡ whole_words b = rw lent at z.answer in
        let done = rw same at put in
        (enough, subst (Called service b o w o' w' p.outcome) asks (rw same at call), sym done.size, done.words)

    pub left_refused : (t' : List ℕ) (k : ℕ) (e : Refusal) (outcome : Outcome) (r : Result ℕ Refusal) → WordsTaken b words words' r → r ≡ Err e
        → outcome ≡ Refused (reason_number e.reason) e.place → Put (refusal_text (reason_number e.reason) e.place) t t' k
        → TextLeft service b t o w t' o w (Ok (record { outcome = outcome; bytes = k }))
    unfolding TextLeft outcome_text
    left_refused t' k e outcome r taken err is put =
        let z : WordsTaken b words words' (Err e) = rw err at taken in
        let asks : refused (reason_number e.reason) e.place ≡ whole_words b = rw lent at z.answer in
        (enough, subst (Called service b o w o w outcome) asks (is, refl, refl), rw is (sym put.size), rw is put.words)
