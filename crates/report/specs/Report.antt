-- What a report call gives and leaves.
use Rattle.std.specs.Prelude.{◌≡◌, ℕ, ◌≤◌, ◌<◌, leb, length, drop, get_or, replicate}
use mathlib.Core.List.{List, [], ◌++◌, Memᴰ as Mem}
use Rattle.order.specs.Order.{All}
use Rattle.paths.specs.Graph.{Graph, Acyclic, Cover, weight, Smallest, Furthest, Rising, Loop}
use Rattle.paths.specs.Items.{by_voices}
use Rattle.logs.specs.Answer.{Answer, given, refused, question}
use Rattle.logs.specs.Log.{questions, graph_of, heard_count, voices_count}
use Rattle.logs.specs.declared.Ceilings.{Ceilings}
use Rattle.writing.specs.Layout.{report_words, loop_words, report_need, BeginsWith}
use Rattle.report.specs.declared.Outcome.{Outcome}
use Rattle.report.specs.declared.Outcome.TheVariants.{Report, Loop as Looped, Refused}

-- The outcome of a report call in numbers: the count of a report's words, or a refusal. A loop is refusal 13 at its length.
abbrev pub outcome_answer : Outcome → Answer ℕ
outcome_answer (Report c) = given c
outcome_answer (Looped c) = refused 13 c
outcome_answer (Refused q p) = refused q p

-- the work words that a caller lends
abbrev pub work_words : ℕ
work_words = 16384

-- Questions 11 and 12, of lent buffers with `out` and `work` words, where the output needs `need`.
abbrev pub lent : ℕ → ℕ → ℕ → Answer (ℕ × ℕ) → Answer (ℕ × ℕ)
lent need out work next = question 11 need (leb need out) (question 12 work_words (leb work_words work) next)

-- Questions 1 to 12 and 18 to 21: `need` says how many output words the service needs for a log with n episodes, t to words and v voices words.
unfoldable pub asked : Ceilings → (ℕ → ℕ → ℕ → ℕ) → List ℕ → ℕ → ℕ → Answer (ℕ × ℕ)
asked m need l out work = go (questions m l)
  where
    go : Answer (ℕ × ℕ) → Answer (ℕ × ℕ)
    go (given (n, t)) = lent (need n t (voices_count l)) out work (given (n, t))
    go (refused q p) = refused q p

-- The work buffer after a loop or a report: its first 16,384 words are zero, the others as they were.
unfoldable pub cleared : List ℕ → List ℕ
cleared work = replicate work_words 0 ++ drop work_words work

-- The threads stand in the members' order, as many for each member as it has voices: first those that hold member 0, and so on; and a thread holds no
-- other member.
pub record Paired (g : Graph) (apart : List ℕ) (threads : List (List ℕ)) : Type 0 where
  pub same : length threads ≡ weight g apart
  pub holds : (i : ℕ) → i < length threads → Mem (get_or (by_voices g.voices apart) i 0) (get_or threads i [])
  pub alone : (i v : ℕ) → i < length threads → Mem v apart → Mem v (get_or threads i []) → v ≡ get_or (by_voices g.voices apart) i 0

-- A report on `g`. Free is which smallest cover, with its threads in the order of the members that they hold.
pub record Reported (g : Graph) (apart : List ℕ) (threads : List (List ℕ)) : Type 0 where
  pub acyclic : Acyclic g
  pub cover : Cover g threads
  pub smallest : Smallest g threads
  pub furthest : Furthest g apart
  pub rising : Rising apart
  pub paired : Paired g apart threads

-- A loop of `g` as it is written: its smallest episode first. Free is which loop.
pub record LoopShown (g : Graph) (c : List ℕ) : Type 0 where
  pub loop : Loop g c
  pub smallest_first : All (λ v. loop.first ≤ v) c

-- the output words that a report needs, by the figures of its log
abbrev pub report_needs : ℕ → ℕ → ℕ → ℕ
report_needs n t v = report_need n v

-- questions 1 to 12 and 18 to 21 of a report call are answered yes
abbrev pub Passes : Ceilings → List ℕ → ℕ → ℕ → Type 0
Passes m l out work = asked m report_needs l out work ≡ given ((graph_of l).n, heard_count l)

-- the output shows a loop of `c` episodes of `g`
abbrev pub ShowsLoop : Graph → ℕ → List ℕ → List ℕ → Type 0
ShowsLoop g c o o' = (loop : List ℕ) × LoopShown g loop × (length loop ≡ c) × BeginsWith (loop_words loop) o o'

-- the output shows a report on `g` in `c` words
abbrev pub ShowsReport : Graph → ℕ → List ℕ → List ℕ → Type 0
ShowsReport g c o o' =
    (apart : List ℕ) × (threads : List (List ℕ)) × Reported g apart threads
    × (length (report_words apart threads) ≡ c) × BeginsWith (report_words apart threads) o o'

-- What a report call leaves, by its outcome: `l` is the log, `o` and `w` are the buffers at entry, `o'` and `w'` at exit.
unfoldable pub Left : Ceilings → List ℕ → List ℕ → List ℕ → List ℕ → List ℕ → Outcome → Type 0
Left m l o w o' w' (Refused q p) =
    (asked m report_needs l (length o) (length w) ≡ refused q p) × (o' ≡ o) × (w' ≡ w)
Left m l o w o' w' (Looped c) = Passes m l (length o) (length w) × ShowsLoop (graph_of l) c o o' × (w' ≡ cleared w)
Left m l o w o' w' (Report c) = Passes m l (length o) (length w) × ShowsReport (graph_of l) c o o' × (w' ≡ cleared w)
