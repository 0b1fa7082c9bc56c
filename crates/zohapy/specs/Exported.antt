-- What the exported functions answer: the outcomes of the services as plain numbers.
use Rattle.std.specs.Prelude.{◌≡◌, Result, Ok, Err, List, ℕ, ◌+◌}
use Rattle.logs.specs.Answer.{Answer, given, refused, reason_number}
use Rattle.logs.specs.Log.{service}
use Rattle.logs.specs.declared.Refusal.{Refusal}
use Rattle.parsing.specs.Whole.{ThreadNumber, ThreadStretch}
use Rattle.report.specs.Report.{Left, outcome_answer}
use Rattle.fair_copy.specs.Copied.{CopyLeft, copy_answer}
use Rattle.trimmed_copy.specs.Trimmed.{TrimLeft, trim_answer}
use Rattle.report.specs.declared.Outcome.{Outcome}
use Rattle.text.specs.Printed.{TextLeft}
use Rattle.text.specs.declared.Printed.{Printed}

-- A reading in four numbers: 0, 0, n and the count of to words, or a refusal's number and place and twice 0.
abbrev pub read_numbers : Answer (ℕ × ℕ) → ℕ × ℕ × ℕ × ℕ
read_numbers (given (n, t)) = (0, 0, n, t)
read_numbers (refused q p) = (q, p, 0, 0)

-- A report, a copy or a link count in two numbers: 0 and the count of its words or of the links, or a refusal's number and place.
abbrev pub numbers : Answer ℕ → ℕ × ℕ
numbers (given c) = (0, c)
numbers (refused q p) = (q, p)

-- `number` and `value` are those of a report call's outcome that leaves these buffers
abbrev pub Reports : List ℕ → List ℕ → List ℕ → List ℕ → List ℕ → ℕ → ℕ → Type 0
Reports l o w o' w' number value = (r : Outcome) × Left service l o w o' w' r × (numbers (outcome_answer r) ≡ (number, value))

-- `number` and `value` are those of a fair copy call's outcome that leaves these buffers
abbrev pub Copies : List ℕ → List ℕ → List ℕ → List ℕ → List ℕ → ℕ → ℕ → Type 0
Copies l o w o' w' number value = (r : Result ℕ Refusal) × CopyLeft service l o w o' w' r × (numbers (copy_answer r) ≡ (number, value))

-- `number` and `value` are those of a trimmed copy call's outcome that leaves these buffers
abbrev pub Trims : List ℕ → List ℕ → List ℕ → List ℕ → List ℕ → ℕ → ℕ → Type 0
Trims l o w o' w' number value = (r : Result ℕ Refusal) × TrimLeft service l o w o' w' r × (numbers (trim_answer r) ≡ (number, value))

-- `number` is that of asking for thread `i`, and the `count` words from `start` on are its steps
abbrev pub Thread : List ℕ → ℕ → ℕ → ℕ → ℕ → Type 0
Thread ws i number start count = ThreadNumber ws i number × ThreadStretch ws i start (start + count)

-- A text in three numbers: those of its outcome and the count of its bytes, or the refusal of the text buffer and no bytes.
abbrev pub printed_numbers : Result Printed Refusal → ℕ × ℕ × ℕ
printed_numbers (Ok p) = let (number, value) = numbers (outcome_answer p.outcome) in (number, value, p.bytes)
printed_numbers (Err r) = (reason_number r.reason, r.place, 0)

-- `number`, `value` and `bytes` are those of a text call that leaves these buffers
abbrev pub Texts : List ℕ → List ℕ → List ℕ → List ℕ → List ℕ → List ℕ → List ℕ → ℕ → ℕ → ℕ → Type 0
Texts b t o w t' o' w' number value bytes =
    (r : Result Printed Refusal) × TextLeft service b t o w t' o' w' r × (printed_numbers r ≡ (number, value, bytes))
