-- The trimmed copy of a log: the voices, and the links that stay, each once, in order, without pauses, in version 0.
use mathlib.Core.List.{List, filter}
use Rattle.std.specs.Prelude.{ℕ}
use Rattle.paths.specs.Graph.{Graph}
use Rattle.paths.proofs.Theorems.{stays_decidable}
use Rattle.copying.specs.FairCopy.{copy_words}

-- the episodes with their voices and the links that stay, in the order in which these were read: `stays_decidable` decides `Stays`
unfoldable pub trimmed : Graph → Graph
trimmed g = record { n = g.n; links = filter (λ (l : ℕ × ℕ). stays_decidable g l.0 l.1) g.links; voices = g.voices }

-- no link has a pause
abbrev pub no_pause : ℕ → ℕ → ℕ
no_pause a b = 0

-- the trimmed copy: the voices and the links that stay, in the layout of the fair copy, in version 0 and with pause 0
abbrev pub trimmed_words : Graph → List ℕ
trimmed_words g = copy_words 0 no_pause (trimmed g)
