-- Older logs, in which no to word has a pause, the head has no version and no word is a voices word; and questions 1 to 10 and the graph as they were
-- defined before there were pauses, word for word but for the one voice of each episode: what older logs are held to.
use Rattle.std.specs.Prelude.{◌≡◌, ◌≢◌, Bool, true, false, not, ◌||◌, List, [], ◌∷◌, ℕ, ◌+◌, ◌<◌, ◌^◌, leb, ltb, eqb, get_or, drop}
use Rattle.order.specs.Order.{All}
use Rattle.paths.specs.Graph.{Graph}
use Rattle.logs.specs.Words.{kind, number}
use Rattle.logs.specs.Answer.{Answer, given, refused, question, and_then}
use Rattle.logs.specs.Log.{is_from, is_to, to_before_last, counted}
use Rattle.logs.specs.declared.Ceilings.{Ceilings}

-- the number of every to word is below 65,536
abbrev pub Unpaused : List ℕ → Type 0
Unpaused l = All (λ w. kind w ≡ 3 → number w < 2 ^ 16) l

-- an older log: that, the number of its head is below 16,777,216, and it has no voices word
abbrev pub Older : List ℕ → Type 0
Older l = Unpaused l × (number (get_or l 0 0) < 2 ^ 24) × All (λ w. kind w ≢ 9) l

-- ---- as it was

-- Questions 2 and 3, of the head `w`.
abbrev pub head_word : Ceilings → ℕ → Answer (ℕ × ℕ)
head_word m w =
    question 2 0 (eqb (kind w) 1)
    (question 3 0 (leb (number w) m.episodes)
    (given (kind w, number w)))

-- Questions 4 to 8, of the word `w` at place `p` between head and end. The words behind it are `rest`; `from` says whether a from
-- word has come before it, `t` how many to words have.
unfoldable pub group_word : Ceilings → ℕ → ℕ → ℕ → List ℕ → Bool → ℕ → Answer (ℕ × ℕ)
group_word m n p w rest from t =
    question 4 p (is_from w || is_to w)
    (question 5 p (not (is_to w) || from)
    (question 6 p (not (is_from w) || to_before_last rest 0)
    (question 7 p (ltb (number w) n)
    (question 8 p (not (is_to w) || leb (t + 1) m.words)
    (given (kind w, number w))))))

-- Questions 9 and 10, of the last word `w` at place `p`, before which `t` to words have come.
unfoldable pub end_word : ℕ → ℕ → ℕ → Answer (ℕ × ℕ)
end_word p w t =
    question 9 p (eqb (kind w) 15)
    (question 10 p (eqb (number w) t)
    (given (kind w, number w)))

-- Questions 4 to 10, of the word `w` at place `p` behind the head: it is the last if no words are behind it.
abbrev pub log_word : Ceilings → ℕ → ℕ → ℕ → List ℕ → Bool → ℕ → Answer (ℕ × ℕ)
log_word m n p w [] from t = end_word p w t
log_word m n p w (x ∷ rest) from t = group_word m n p w (x ∷ rest) from t

-- Questions 4 to 10, of the word `w` at place `p`, then of each word behind it.
unfoldable pub onwards : Ceilings → ℕ → ℕ → ℕ → List ℕ → Bool → ℕ → Answer (ℕ × ℕ)
onwards m n p w [] from t = and_then (log_word m n p w [] from t) (given (n, t))
onwards m n p w (x ∷ rest) from t =
    and_then (log_word m n p w (x ∷ rest) from t) (onwards m n (p + 1) x rest (from || is_from w) (counted (is_to w) t))

-- Questions 1 to 10: n and the count of to words, or the refusal.
unfoldable pub questions : Ceilings → List ℕ → Answer (ℕ × ℕ)
questions m [] = refused 1 0
questions m (w ∷ []) = refused 1 0
questions m (w ∷ x ∷ rest) = and_then (head_word m w) (onwards m (number w) 1 x rest false 0)

-- The links of the words behind the head, in order: each to word gives one, from the nearest from word before it; `a` is that of the
-- words before.
unfoldable pub links_from : ℕ → List ℕ → List (ℕ × ℕ)
links_from a [] = []
links_from a (w ∷ rest) =
    elim (is_from w) [
      | true ↦ links_from (number w) rest
      | false ↦ elim (is_to w) [ true ↦ (a, number w) ∷ links_from a rest | false ↦ links_from a rest ]
    ]

-- the graph of a log
abbrev pub graph_of : List ℕ → Graph
graph_of l = record { n = number (get_or l 0 0); links = links_from 0 (drop 1 l); voices = λ _. 1 }
