-- What asking for a thread of a report's words answers: its number, and the stretch of the thread's steps.
use Rattle.std.specs.Prelude.{ℕ, Result, Ok, Err}
use Rattle.logs.specs.Answer.{reason_number}
use Rattle.logs.specs.declared.Refusal.{Refusal}
use Rattle.threads.specs.declared.Stretch.{Stretch}

-- 0 where the thread is found, or the number of the refusal
abbrev pub found_number : Result Stretch Refusal → ℕ
found_number (Ok s) = 0
found_number (Err r) = reason_number r.reason

-- the stretch of its steps, which is empty where it is refused
abbrev pub found_stretch : Result Stretch Refusal → Stretch
found_stretch (Ok s) = s
found_stretch (Err r) = record { start = 0; end = 0 }
