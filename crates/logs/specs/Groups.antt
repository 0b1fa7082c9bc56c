-- The groups of a log: what the words before a place give, and the to words of a group.
use Rattle.std.specs.Prelude.{◌≡◌, true, false, List, [], ◌∷◌, map, ℕ, ◌+◌, ◌≤◌, ◌<◌, length, get_or, take, drop}
use Rattle.logs.specs.Words.{kind, number, to_episode, to_pause}
use Rattle.logs.specs.Content.{Heard, joins, short_of}
use Rattle.logs.specs.Log.{is_from, to_before_last, heard_from, content_of}

-- the episode of the last from word among the words, or `a` if there is none
unfoldable pub last_from : ℕ → List ℕ → ℕ
last_from a [] = a
last_from a (w ∷ rest) = elim (is_from w) [ true ↦ last_from (number w) rest | false ↦ last_from a rest ]

-- the words behind the head and before place `p`
abbrev pub before : List ℕ → ℕ → List ℕ
before l p = drop 1 (take p l)

-- the links of the words before place `p`
unfoldable pub heard_before : List ℕ → ℕ → List Heard
heard_before l p = heard_from 0 (before l p)

-- of these, without their pauses, the links that count by their own pause
abbrev pub short_before : List ℕ → ℕ → List (ℕ × ℕ)
short_before l p = map joins (short_of (content_of l).version (heard_before l p))

-- such links of the whole log
abbrev pub short_links : List ℕ → List (ℕ × ℕ)
short_links l = map joins (short_of (content_of l).version (content_of l).heard)

-- the episode of the nearest from word before place `p`
unfoldable pub nearest_from : List ℕ → ℕ → ℕ
nearest_from l p = last_from 0 (before l p)

-- to words stand from `start` on and before `p`, which is a place of the log
pub record ToWords (l : List ℕ) (start p : ℕ) : Type 0 where
  pub start_before : start ≤ p
  pub within : p < length l
  pub each : (q : ℕ) → start ≤ q → q < p → to_before_last l q ≡ true

-- a group starts at place `p`, or the last word stands there
pub record Starts (l : List ℕ) (p : ℕ) : Type 0 where
  pub behind : 0 < p
  pub within : p < length l
  pub starts : p + 1 < length l → kind (get_or l p 0) ≡ 2

-- the link that the to word `w` gives in a group of `a`
abbrev pub told : ℕ → ℕ → Heard
told a w = record { from = a; to = to_episode w; pause = to_pause w }

-- the later episodes of the to words are below `n`
abbrev pub EpisodesBelow : ℕ → List ℕ → Type 0
EpisodesBelow n ws = (j : ℕ) → j < length ws → to_episode (get_or ws j 0) < n
