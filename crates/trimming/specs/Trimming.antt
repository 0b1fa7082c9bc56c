-- What the steps to a trimmed copy leave.
use Rattle.std.specs.Prelude.{◌≡◌, ◌↔◌, Bool, ◌&&◌, List, ℕ, ◌+◌, ◌*◌, ◌^◌, ◌≤◌, ◌<◌, eqb, length}
use Rattle.paths.specs.Graph.{Graph, EndsBelow, Link, Way}
use Rattle.paths.specs.Passing.{passing}
use Rattle.paths.specs.Trimmed.{Implied}
use Rattle.logs.specs.Words.{Small, to_word}
use Rattle.bits.specs.Bits.{digit, bit}
use Rattle.bits.specs.Work.{links_at, ways_at, used_words, Matrix}
use Rattle.items.specs.Listed.{voices_in}

-- the work words hold the links, the ways and the voices of a graph with `n` episodes, and words can hold these and the count of the links
pub record Held (g : Graph) (n : ℕ) (w : List ℕ) : Type 0 where
  pub count : g.n ≡ n
  pub few : n ≤ 256
  pub small : Small (length g.links)
  pub long : used_words ≤ length w
  pub ends : EndsBelow g
  pub links : Matrix links_at w (Link g)
  pub ways : Matrix ways_at w (Way g)
  pub voices : (v : ℕ) → v < n → voices_in w v ≡ g.voices v
  pub small_voices : (v : ℕ) → v < n → g.voices v < 2 ^ 12

-- the row of bits `v` has what is implied of the links of `a`
abbrev pub HoldsImplied : List ℕ → ℕ → List ℕ → Type 0
HoldsImplied w a v = (g : Graph) (n : ℕ) → Held g n w → (c : ℕ) → c < 256 → (bit v 0 c ≡ 1) ↔ Implied g a c

-- whether `b` is a link of `a` that is not among the bits of `v`
abbrev pub kept_at : List ℕ → ℕ → List ℕ → ℕ → Bool
kept_at w a v b = eqb (bit w (links_at + 8 * a) b) 1 && eqb (bit v 0 b) 0

-- those that are, rising
abbrev pub kept_to : List ℕ → ℕ → List ℕ → List ℕ
kept_to w a v = passing (kept_at w a v) 256

-- the to word of an episode with pause 0
abbrev pub to_unpaused : ℕ → ℕ
to_unpaused b = to_word b 0

-- the test tells the digits of `x`, counted from `first` on
abbrev pub TellsDigits : (ℕ → Bool) → ℕ → ℕ → Type 0
TellsDigits test x first = (j : ℕ) → j < 32 → test (first + j) ≡ eqb (digit x j) 1
