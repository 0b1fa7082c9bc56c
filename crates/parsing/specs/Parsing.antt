-- What the steps of the parse find.
use Rattle.std.specs.Prelude.{◌≡◌, Bool, true, false, List, [], ◌++◌, ℕ, ◌+◌, ◌≤◌, ◌<◌, eqb, length, get_or, drop}
use Rattle.std.specs.List.{prefix_len}
use Rattle.order.specs.Order.{All}
use Rattle.logs.specs.Words.{kind, number}
use Rattle.writing.specs.Layout.{thread_words, threads_words}
use Rattle.parsing.specs.Whole.{ThreadFits, IsReport, Whole, thread_place}

-- all words from `from` on and before `end` are of kind `k`
abbrev pub OfKind : List ℕ → ℕ → ℕ → ℕ → Type 0
OfKind ws from end k = (j : ℕ) → from ≤ j → j < end → kind (get_or ws j 0) ≡ k

-- whether they are
pub record KindTest (ws : List ℕ) (from end k : ℕ) (r : Bool) : Type 0 where
  pub all : r ≡ true → OfKind ws from end k
  pub not_all : r ≡ false → OfKind ws from end k → ⊥

-- how many words of kind 5 stand behind the first word, up to the first of another kind
abbrev pub apart_count : List ℕ → ℕ
apart_count ws = prefix_len (λ w. eqb (kind w) 5) (drop 1 ws)

-- `r` is the place behind the thread that stands at `at`, or 0 where none does
pub record ThreadEnd (ws : List ℕ) (at r : ℕ) : Type 0 where
  pub within : r ≤ length ws
  pub found : 0 < r → (t : List ℕ) × ThreadFits t × (drop at ws ≡ thread_words t ++ drop r ws)
  pub behind : (t rest : List ℕ) → ThreadFits t → drop at ws ≡ thread_words t ++ rest → r ≡ at + length (thread_words t)

-- `r` is the place behind the `k` threads that stand from `at` on, or 0 where they do not
pub record ThreadsEnd (ws : List ℕ) (at k r : ℕ) : Type 0 where
  pub within : r ≤ length ws
  pub found : 0 < r → (ts : List (List ℕ)) × (length ts ≡ k) × All ThreadFits ts × (drop at ws ≡ threads_words ts ++ drop r ws)
  pub behind : (ts : List (List ℕ)) (rest : List ℕ) → length ts ≡ k → All ThreadFits ts → drop at ws ≡ threads_words ts ++ rest
      → r ≡ at + length (threads_words ts)

-- whether the words are a whole report
pub record WholeTest (ws : List ℕ) (r : Bool) : Type 0 where
  pub whole : r ≡ true → Whole ws
  pub not_whole : r ≡ false → Whole ws → ⊥

-- thread `i` of a whole report stands at `r`
abbrev pub ThreadAt : List ℕ → ℕ → ℕ → Type 0
ThreadAt ws i r =
    (apart : List ℕ) (threads : List (List ℕ)) → IsReport ws apart threads → i < length threads
    → (r ≡ thread_place apart threads i) × (rest : List ℕ) × (drop r ws ≡ thread_words (get_or threads i []) ++ rest)

-- the count that stands at `r` is not 0, and as many words stand behind it
abbrev pub Room : List ℕ → ℕ → Type 0
Room ws r = (1 ≤ number (get_or ws r 0)) × (r + 1 + number (get_or ws r 0) ≤ length ws)
