-- What stands in the work words when the graph is in them, and what is answered from there.
use Rattle.std.specs.Prelude.{◌≡◌, Option, Some, None, List, ℕ, ◌≤◌, ◌<◌, length, get_or}
use Rattle.paths.specs.Graph.{Graph, EndsBelow, Link, Way, Acyclic}
use Rattle.paths.specs.Items.{item_count}
use Rattle.bits.specs.Work.{links_at, ways_at, next_at, voices_at, used_words, Matrix}
use Rattle.items.specs.Listed.{voices_in}
use Rattle.report.specs.Report.{ShowsLoop, ShowsReport}
use Rattle.report.specs.declared.Outcome.{Outcome}
use Rattle.report.specs.declared.Outcome.TheVariants.{Report, Loop as Looped, Refused}

-- the work words hold the links, the ways and the voices of a graph with `n` episodes, and the tables of the search are empty
pub record Ready (g : Graph) (n : ℕ) (w : List ℕ) : Type 0 where
  pub count : g.n ≡ n
  pub few : n < 256
  pub few_items : item_count g < 256
  pub long : used_words ≤ length w
  pub ends : EndsBelow g
  pub links : Matrix links_at w (Link g)
  pub ways : Matrix ways_at w (Way g)
  pub voices : (v : ℕ) → v < n → voices_in w v ≡ g.voices v
  pub empty : (i : ℕ) → next_at ≤ i → i < voices_at → get_or w i 0 ≡ 0

-- the length of a loop of `g` that the output shows, where there is one; where there is none, nothing has changed
abbrev pub LoopSought : Graph → List ℕ → List ℕ → List ℕ → List ℕ → Option ℕ → Type 0
LoopSought g o w o' w' None = Acyclic g × (o' ≡ o) × (w' ≡ w)
LoopSought g o w o' w' (Some k) = ShowsLoop g k o o'

-- a report on `g`, or a loop of it
abbrev pub Answered : Graph → List ℕ → List ℕ → Outcome → Type 0
Answered g o o' (Report c) = ShowsReport g c o o'
Answered g o o' (Looped c) = ShowsLoop g c o o'
Answered g o o' (Refused q p) = ⊥
