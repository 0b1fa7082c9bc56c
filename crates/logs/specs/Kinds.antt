-- The kinds of words, each by its number.
use Rattle.std.specs.Prelude.{◌≡◌, ◌≢◌, ℕ, Result, MatchResult}
use Rattle.logs.specs.Words.{kind, kind_code}
use Rattle.logs.specs.declared.Kind.{Kind}
use Rattle.logs.specs.declared.Reason.{Reason}
use Rattle.logs.specs.declared.Reason.TheVariants.{UnknownKind}

-- `r` is the kind of the word `w`, or the word is of no kind
abbrev pub KindOf : ℕ → Result Kind Reason → Type 0
KindOf w r = MatchResult r (λ k. kind_code k ≡ kind w) (λ e. (e ≡ UnknownKind) × ((k : Kind) → kind_code k ≢ kind w))
