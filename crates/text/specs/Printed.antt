-- What a text call gives, and what it leaves in the text buffer, the output and the work words.
use Rattle.std.specs.Prelude.{◌≡◌, List, ℕ, ◌/◌, ◌≤◌, ◌<◌, length, Result, Ok, Err}
use Rattle.logs.specs.Answer.{Answer, given, refused, reason_number}
use Rattle.logs.specs.Log.{graph_of}
use Rattle.logs.specs.declared.Ceilings.{Ceilings}
use Rattle.logs.specs.declared.Refusal.{Refusal}
use Rattle.writing.specs.Layout.{BeginsWith}
use Rattle.report.specs.Report.{Left}
use Rattle.report.specs.declared.Outcome.{Outcome}
use Rattle.report.specs.declared.Outcome.TheVariants.{Refused}
use Rattle.input.specs.Input.{most_bytes, words_of, bytes_asked}
use Rattle.text.specs.Text.{outcome_text}
use Rattle.text.specs.declared.Printed.{Printed}

-- the bytes that every text fits: 4 for each of the 10,502 words that a report has at most, 3 more for each of 200 threads, and 32
abbrev pub text_bytes : ℕ
text_bytes = 42640

-- Questions 14 and 15 of the bytes; 11 is answered yes, since the words that the call lends them are as many as they can be.
abbrev pub whole_words : List ℕ → Answer ℕ
whole_words b = bytes_asked (length b) (most_bytes / 4)

-- What the outcome says and what is left in the output and the work words, of the bytes' answer: where they are refused, no word has changed; else it is
-- what a report call on their words leaves.
abbrev pub Called : Ceilings → List ℕ → List ℕ → List ℕ → List ℕ → List ℕ → Outcome → Answer ℕ → Type 0
Called m b o w o' w' r (refused q p) = (r ≡ Refused q p) × (o' ≡ o) × (w' ≡ w)
Called m b o w o' w' r (given n) = Left m (words_of b) o w o' w' r

-- What the call on the bytes `b`, the text buffer `t`, the output `o` and the work words `w` leaves in these, `t'`, `o'` and `w'`, by what it gives.
-- A text buffer that is too short is refused with 11 and the bytes needed, and nothing has changed. Else it begins with the text of the outcome, and is
-- behind that as it was.
unfoldable pub TextLeft : Ceilings → List ℕ → List ℕ → List ℕ → List ℕ → List ℕ → List ℕ → List ℕ → Result Printed Refusal → Type 0
TextLeft m b t o w t' o' w' (Err e) =
    (length t < text_bytes) × (reason_number e.reason ≡ 11) × (e.place ≡ text_bytes) × (t' ≡ t) × (o' ≡ o) × (w' ≡ w)
TextLeft m b t o w t' o' w' (Ok p) =
    (text_bytes ≤ length t) × Called m b o w o' w' p.outcome (whole_words b)
    × (length (outcome_text (graph_of (words_of b)) o' p.outcome) ≡ p.bytes)
    × BeginsWith (outcome_text (graph_of (words_of b)) o' p.outcome) t t'
