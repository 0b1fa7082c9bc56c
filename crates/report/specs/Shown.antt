-- What is printed of an outcome.
use Rattle.std.specs.Prelude.{List, ◌++◌, ℕ, codes, decimal}
use Rattle.logs.specs.Shown.{refusal_shown}
use Rattle.report.specs.declared.Outcome.{Outcome}
use Rattle.report.specs.declared.Outcome.TheVariants.{Report, Loop as Looped, Refused}

-- the count of a report's words; a loop as refusal 13 at its length; a refusal
abbrev pub outcome_shown : Outcome → List ℕ
outcome_shown (Report c) = codes "count " ++ decimal c
outcome_shown (Looped c) = refusal_shown 13 c
outcome_shown (Refused q p) = refusal_shown q p
