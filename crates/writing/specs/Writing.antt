-- What stands in the work words when a report or a loop is written, and what each function writes.
use Rattle.std.specs.Prelude.{◌≡◌, ◌⊎◌, Bool, ◌&&◌, List, ◌∷◌, map, ℕ, ◌+◌, ◌*◌, ◌≤◌, ◌<◌, ltb, length}
use Rattle.paths.specs.Graph.{Graph, Episode, EndsBelow, Link, Way, Acyclic, Loop}
use Rattle.paths.specs.Passing.{passing}
use Rattle.paths.specs.Items.{item_count, owner, first_item, ItemWay, by_voices}
use Rattle.paths.specs.OneVoice.{OneVoice}
use Rattle.logs.specs.Words.{word}
use Rattle.bits.specs.Bits.{bit}
use Rattle.bits.specs.Work.{links_at, ways_at, used_words, Matrix}
use Rattle.searching.specs.Items.{Tables, Matching, Steps, Exhausted, Shrunk, member_test, members}
use Rattle.chains.specs.Cycles.{Selves}
use Rattle.chains.specs.Threads.{ThreadOf, ThreadsOf}
use Rattle.searching.specs.State.{tables}
use Rattle.items.specs.Listed.{voices_in, start_in, owner_in}
use Rattle.writing.specs.Layout.{thread_words, threads_words, report_words, report_need, loop_words, BeginsWith}

-- The work words hold the links, the ways and the voices of an acyclic graph with `n` episodes, its `m` items, as few chains of these as can be, and
-- the exhausted search.
pub record Solved (g : Graph) (n m : ℕ) (w : List ℕ) : Type 0 where
  pub count : g.n ≡ n
  pub few : n < 256
  pub items : item_count g ≡ m
  pub few_items : m < 256
  pub long : used_words ≤ length w
  pub ends : EndsBelow g
  pub acyclic : Acyclic g
  pub links : Matrix links_at w (Link g)
  pub ways : Matrix ways_at w (Way g)
  pub voices : (v : ℕ) → v < n → voices_in w v ≡ g.voices v
  pub starts : (v : ℕ) → v < n → start_in w v ≡ first_item g v
  pub owners : (x : ℕ) → x < m → owner_in w x ≡ owner g x
  pub matching : Matching m (tables w)
  pub pairs : (x y : ℕ) → x < m → y < m → (tables w).next x ≡ y + 1 → ItemWay g x y
  pub exhausted : Exhausted m (ItemWay g) (tables w)

-- the work words hold so much of some graph
abbrev pub IsSolved : ℕ → ℕ → List ℕ → Type 0
IsSolved n m w = ∥ ((g : Graph) × Solved g n m w) ∥₁

-- whether the episode `v` is in the apart set: it has voices, and its first item, with which the others come, is a member of the antichain
abbrev pub apart_test : List ℕ → ℕ → Bool
apart_test w v = ltb 0 (voices_in w v) && member_test (tables w) (start_in w v)

-- the apart set among the episodes below `k`, rising
abbrev pub apart_in : List ℕ → ℕ → List ℕ
apart_in w k = passing (apart_test w) k

-- the apart set: kind 4 with the width, the voices of its members together, then these; `r` counts them
pub record ApartWritten (w o o' : List ℕ) (n r : ℕ) : Type 0 where
  pub size : r ≡ length (apart_in w n)
  pub words : BeginsWith (word 4 (length (by_voices (voices_in w) (apart_in w n))) ∷ map (word 5) (apart_in w n)) o o'

-- the first item of the chain of `v`
pub record StartOf (w : List ℕ) (v r : ℕ) : Type 0 where
  pub below : (n : ℕ) → Matching n (tables w) → v < n → r < n
  pub first : (tables w).prev r ≡ 0
  pub steps : Steps (tables w).next r v

-- the next step from `c` on a path to `b`
pub record HopTo (w : List ℕ) (c b r : ℕ) : Type 0 where
  pub below : r < 256
  pub link : bit w (links_at + 8 * c) r ≡ 1
  pub nearer : (r ≡ b) ⊎ (bit w (ways_at + 8 * r) b ≡ 1)

-- a thread that holds the owners of the chain of the item `v`, in `r` words
pub record ThreadWritten (w o o' : List ℕ) (n m v r : ℕ) : Type 0 where
  pub thread : List ℕ
  pub size : r ≡ length (thread_words thread)
  pub words : BeginsWith (thread_words thread) o o'
  pub of : (g : Graph) → Solved g n m w → ThreadOf g (tables w).next v thread

-- a thread for each member of the antichain, in `r` words
pub record ThreadsWritten (w o o' : List ℕ) (n m r : ℕ) : Type 0 where
  pub threads : List (List ℕ)
  pub size : r ≡ length (threads_words threads)
  pub words : BeginsWith (threads_words threads) o o'
  pub of : (g : Graph) → Solved g n m w → ThreadsOf g (tables w).next (members (tables w) m) threads

-- a whole report, in `r` words
pub record ReportWritten (w o o' : List ℕ) (n m r : ℕ) : Type 0 where
  pub threads : List (List ℕ)
  pub size : r ≡ length (report_words (apart_in w n) threads)
  pub words : BeginsWith (report_words (apart_in w n) threads) o o'
  pub of : (g : Graph) → Solved g n m w → ThreadsOf g (tables w).next (members (tables w) m) threads

-- `k` words have room for a report on `g`: each episode has one voice, or none has more than two
abbrev pub ReportRoom : Graph → ℕ → Type 0
ReportRoom g k =
    (OneVoice g × (report_need g.n 0 ≤ k)) ⊎ (((v : ℕ) → Episode g v → g.voices v ≤ 2) × (report_need g.n 1 ≤ k))

-- The items behind each other from `v` on are a loop: they come of a shrink from items that are each behind itself.
pub record Looping (g : Graph) (n v : ℕ) (w : List ℕ) : Type 0 where
  pub count : g.n ≡ n
  pub few : n < 256
  pub long : used_words ≤ length w
  pub selves : Tables
  pub selves_are : Selves n selves v
  pub shrunk : Shrunk n (Link g) selves (tables w)

-- a loop from `v` on, of `r` episodes
pub record LoopWritten (w o o' : List ℕ) (v r : ℕ) : Type 0 where
  pub loop : List ℕ
  pub size : r ≡ length loop
  pub words : BeginsWith (loop_words loop) o o'
  pub of : (g : Graph) (n : ℕ) → Looping g n v w → (l : Loop g loop) × (l.first ≡ v)
