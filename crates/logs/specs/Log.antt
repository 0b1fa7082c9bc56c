-- A log: questions 1 to 10 and 18 to 21, and what its words tell.
use Rattle.std.specs.Prelude.{◌≡◌, Bool, true, false, not, ◌&&◌, ◌||◌, List, [], ◌∷◌, ◌++◌, map, ℕ, ◌+◌, ◌≤◌, leb, ltb, eqb, length, get_or, drop}
use Rattle.paths.specs.Graph.{Graph}
use Rattle.logs.specs.Words.{kind, number, head_episodes, head_version, to_episode, to_pause, to_word, voices_episode, voices_given}
use Rattle.logs.specs.Content.{Heard, Content, graph}
use Rattle.logs.specs.Answer.{Answer, given, refused, question, and_then}
use Rattle.logs.specs.declared.Ceilings.{Ceilings}

-- the service's ceilings: 200 episodes and 4,096 to words
abbrev pub service : Ceilings
service = record { episodes = 200; words = 4096 }

abbrev pub is_from : ℕ → Bool
is_from w = eqb (kind w) 2

abbrev pub is_to : ℕ → Bool
is_to w = eqb (kind w) 3

abbrev pub is_voices : ℕ → Bool
is_voices w = eqb (kind w) 9

-- the most episodes of a log with a voices word
abbrev pub most_with_voices : ℕ
most_with_voices = 120

-- the most voices of an episode
abbrev pub most_voices : ℕ
most_voices = 2

-- the word at place `p` is not the last, and is a to word
abbrev pub to_before_last : List ℕ → ℕ → Bool
to_before_last l p = ltb (p + 1) (length l) && is_to (get_or l p 0)

-- a to word's episode, the whole number of any other word
abbrev pub figure : ℕ → ℕ
figure w = elim (is_to w) [ true ↦ to_episode w | false ↦ number w ]

-- a to word's pause; other words have none
abbrev pub minutes : ℕ → ℕ
minutes w = elim (is_to w) [ true ↦ to_pause w | false ↦ 0 ]

-- Questions 2, 18 and 3, of the head `w`: there are the versions 0 and 1.
abbrev pub head_word : Ceilings → ℕ → Answer (ℕ × ℕ × ℕ)
head_word m w =
    question 2 0 (eqb (kind w) 1)
    (question 18 0 (leb (head_version w) 1)
    (question 3 0 (leb (head_episodes w) m.episodes)
    (given (kind w, head_episodes w, head_version w))))

-- Questions 4 to 8, of the word `w` at place `p` between head and end. The words behind it are `rest`; `from` says whether a from
-- word has come before it, `t` how many to words have.
unfoldable pub group_word : Ceilings → ℕ → ℕ → ℕ → List ℕ → Bool → ℕ → Answer (ℕ × ℕ × ℕ)
group_word m n p w rest from t =
    question 4 p (is_from w || is_to w)
    (question 5 p (not (is_to w) || from)
    (question 6 p (not (is_from w) || to_before_last rest 0)
    (question 7 p (ltb (figure w) n)
    (question 8 p (not (is_to w) || leb (t + 1) m.words)
    (given (kind w, figure w, minutes w))))))

-- Questions 9 and 10, of the last word `w` at place `p`, before which `t` to words have come.
unfoldable pub end_word : ℕ → ℕ → ℕ → Answer (ℕ × ℕ × ℕ)
end_word p w t =
    question 9 p (eqb (kind w) 15)
    (question 10 p (eqb (number w) t)
    (given (kind w, number w, 0)))

-- Questions 4 to 10, of the word `w` at place `p` behind the head: it is the last if no words are behind it.
abbrev pub log_word : Ceilings → ℕ → ℕ → ℕ → List ℕ → Bool → ℕ → Answer (ℕ × ℕ × ℕ)
log_word m n p w [] from t = end_word p w t
log_word m n p w (x ∷ rest) from t = group_word m n p w (x ∷ rest) from t

-- `t`, and one more for a to word
abbrev pub counted : Bool → ℕ → ℕ
counted true t = t + 1
counted false t = t

-- Questions 4 to 10, of the word `w` at place `p`, then of each word behind it.
unfoldable pub onwards : Ceilings → ℕ → ℕ → ℕ → List ℕ → Bool → ℕ → Answer (ℕ × ℕ)
onwards m n p w [] from t = and_then (log_word m n p w [] from t) (given (n, t))
onwards m n p w (x ∷ rest) from t =
    and_then (log_word m n p w (x ∷ rest) from t) (onwards m n (p + 1) x rest (from || is_from w) (counted (is_to w) t))

-- whether one of the marks is of the episode `v`; a mark is an episode and its voices
unfoldable pub marked : ℕ → List (ℕ × ℕ) → Bool
marked v [] = false
marked v (s ∷ ss) = eqb v s.0 || marked v ss

-- Questions 20, 7, 19 and 21, of the voices word `w` at place `p`, before which voices words have given `marks`.
unfoldable pub voices_asked : ℕ → ℕ → ℕ → List (ℕ × ℕ) → Answer (ℕ × ℕ × ℕ)
voices_asked n p w marks =
    question 20 p (leb n most_with_voices)
    (question 7 p (ltb (voices_episode w) n)
    (question 19 p (leb (voices_given w) most_voices)
    (question 21 p (not (marked (voices_episode w) marks))
    (given (kind w, voices_episode w, voices_given w)))))

-- The questions of each voices word between head and first group, from the word `w` at place `p` on, then 4 to 10 of the words behind them.
unfoldable pub voices_onwards : Ceilings → ℕ → ℕ → ℕ → List ℕ → List (ℕ × ℕ) → Answer (ℕ × ℕ)
voices_onwards m n p w [] marks = onwards m n p w [] false 0
voices_onwards m n p w (x ∷ rest) marks =
    elim (is_voices w) [
      | true ↦ and_then (voices_asked n p w marks) (voices_onwards m n (p + 1) x rest (marks ++ (voices_episode w, voices_given w) ∷ []))
      | false ↦ onwards m n p w (x ∷ rest) false 0
    ]

-- Questions 1 to 10, and 18 to 21: n and the count of to words, or the refusal.
unfoldable pub questions : Ceilings → List ℕ → Answer (ℕ × ℕ)
questions m [] = refused 1 0
questions m (w ∷ []) = refused 1 0
questions m (w ∷ x ∷ rest) = and_then (head_word m w) (voices_onwards m (head_episodes w) 1 x rest [])

-- The marks that the voices words among the words give, in order.
unfoldable pub marks_of : List ℕ → List (ℕ × ℕ)
marks_of [] = []
marks_of (w ∷ rest) = elim (is_voices w) [ true ↦ (voices_episode w, voices_given w) ∷ marks_of rest | false ↦ marks_of rest ]

-- the voices of the episode `v`: those of its mark, 1 where it has none
unfoldable pub voices_by : List (ℕ × ℕ) → ℕ → ℕ
voices_by [] v = 1
voices_by (s ∷ ss) v = elim (eqb v s.0) [ true ↦ s.1 | false ↦ voices_by ss v ]

-- The links that the words behind the head give, in order: each to word gives one, from the nearest from word before it; `a` is that of
-- the words before.
unfoldable pub heard_from : ℕ → List ℕ → List Heard
heard_from a [] = []
heard_from a (w ∷ rest) =
    elim (is_from w) [
      | true ↦ heard_from (number w) rest
      | false ↦ elim (is_to w) [
        | true ↦ record { from = a; to = to_episode w; pause = to_pause w } ∷ heard_from a rest
        | false ↦ heard_from a rest
      ]
    ]

-- what a log tells
abbrev pub content_of : List ℕ → Content
content_of l =
    record {
      version = head_version (get_or l 0 0);
      n = head_episodes (get_or l 0 0);
      voices = voices_by (marks_of (drop 1 l));
      heard = heard_from 0 (drop 1 l);
    }

-- the graph of a log
abbrev pub graph_of : List ℕ → Graph
graph_of l = graph (content_of l)

-- how many links were heard: one for each to word
abbrev pub heard_count : List ℕ → ℕ
heard_count l = length (content_of l).heard

-- how many voices words the log has
abbrev pub voices_count : List ℕ → ℕ
voices_count l = length (marks_of (drop 1 l))

-- the log passes questions 1 to 10 and 18 to 21, at some ceilings, with at most 256 episodes
abbrev pub PassedLog : List ℕ → Type 0
PassedLog l = (m : Ceilings) × (n : ℕ) × (t : ℕ) × (questions m l ≡ given (n, t)) × (n ≤ 256)

-- the log passes questions 1 to 10 and 18 to 21 with `n` episodes and `t` to words, at these as ceilings
abbrev pub PassesWith : List ℕ → ℕ → ℕ → Type 0
PassesWith l n t = questions (record { episodes = n; words = t }) l ≡ given (n, t)

-- a to word with pause 0, another word as it is
abbrev pub without_pause : ℕ → ℕ
without_pause w = elim (is_to w) [ true ↦ to_word (to_episode w) 0 | false ↦ w ]

-- a log with pause 0 in every to word
unfoldable pub without_pauses : List ℕ → List ℕ
without_pauses [] = []
without_pauses (w ∷ rest) = w ∷ map without_pause rest
