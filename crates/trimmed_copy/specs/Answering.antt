-- What is answered from the links, the ways and the voices in the work words.
use Rattle.std.specs.Prelude.{◌≡◌, Result, Ok, Err, List, ℕ, ◌+◌, ◌^◌, ◌≤◌, ◌<◌, length}
use Rattle.paths.specs.Graph.{Graph, Episode, Loop as Cycle}
use Rattle.logs.specs.Words.{Small}
use Rattle.logs.specs.declared.Refusal.{Refusal}
use Rattle.logs.specs.declared.Reason.TheVariants.{Loop}
use Rattle.trimming.specs.TrimmedCopy.{trimmed_words}
use Rattle.report.specs.Report.{ShowsLoop}
use Rattle.trimmed_copy.specs.Trimmed.{ShowsTrimmed}

-- `k` words have room for the trimmed copy of `g` and for each of its loops, and words for the count of its links and for voices
pub record Room (g : Graph) (k : ℕ) : Type 0 where
  pub small : Small (length g.links)
  pub small_voices : (v : ℕ) → Episode g v → g.voices v < 2 ^ 12
  pub copy : length (trimmed_words g) ≤ k
  pub loop : (c : List ℕ) → Cycle g c → length c + 1 ≤ k

-- a trimmed copy of `g`, or a loop of it
abbrev pub TrimAnswered : Graph → List ℕ → List ℕ → Result ℕ Refusal → Type 0
TrimAnswered g o o' (Ok c) = ShowsTrimmed g c o o'
TrimAnswered g o o' (Err r) = (r.reason ≡ Loop) × ShowsLoop g r.place o o'
