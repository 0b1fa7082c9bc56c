-- The fair copy of a log: its version, the voices of each episode that has not one, and each link that was heard, once, in order, with its least
-- pause.
use Rattle.std.specs.Prelude.{◌≡◌, ◌⊎◌, Bool, not, List, [], ◌∷◌, ◌++◌, map, ℕ, zero, suc, ◌+◌, ◌*◌, ◌<◌, eqb, length}
use Rattle.paths.specs.Graph.{Graph}
use Rattle.paths.specs.Links.{linked}
use Rattle.paths.specs.Passing.{passing}
use Rattle.logs.specs.Words.{word, head_of, to_word, voices_word}
use Rattle.logs.specs.Content.{Content, heard_graph, least_pause}

-- the episodes below `k` that `a` is linked to, rising
abbrev pub linked_to : ℕ → List (ℕ × ℕ) → ℕ → List ℕ
linked_to a ls k = passing (λ b. linked a b ls) k

-- one group: a from word and its to words, each with its pause, or no words where there are no links
unfoldable pub group : ℕ → (ℕ → ℕ) → List ℕ → List ℕ
group a pause [] = []
group a pause (b ∷ bs) = word 2 a ∷ map (λ (c : ℕ). to_word c (pause c)) (b ∷ bs)

-- the groups of the episodes below `k`, rising; `pause a b` is what is written with the link from `a` to `b`
unfoldable pub groups : (ℕ → ℕ → ℕ) → Graph → ℕ → List ℕ
groups pause g zero = []
groups pause g (suc a) = groups pause g a ++ group a (pause a) (linked_to a g.links g.n)

-- the links that these groups give
unfoldable pub group_links : Graph → ℕ → List (ℕ × ℕ)
group_links g zero = []
group_links g (suc a) = group_links g a ++ map (λ (b : ℕ). (a, b)) (linked_to a g.links g.n)

-- whether the episode `v` has other voices than one
abbrev pub not_one : (ℕ → ℕ) → ℕ → Bool
not_one voices v = not (eqb (voices v) 1)

-- the voices words of the episodes below `k` that have other voices than one, rising
unfoldable pub voices_words : (ℕ → ℕ) → ℕ → List ℕ
voices_words voices k = map (λ (v : ℕ). voices_word v (voices v)) (passing (not_one voices) k)

-- the layout of a copy of version `v`: the head, the voices words, the groups, and the end with the count of to words
unfoldable pub copy_words : ℕ → (ℕ → ℕ → ℕ) → Graph → List ℕ
copy_words v pause g =
    head_of v g.n ∷ voices_words g.voices g.n ++ groups pause g g.n ++ word 15 (length (group_links g g.n)) ∷ []

-- how many words a copy has, whatever its version
abbrev pub copy_length : (ℕ → ℕ → ℕ) → Graph → ℕ
copy_length pause g = 1 + length (voices_words g.voices g.n) + length (groups pause g g.n) + 1

-- the fair copy: the version, the voices, and each link that was heard, with its least pause
abbrev pub fair_words : Content → List ℕ
fair_words c = copy_words c.version (least_pause c) (heard_graph c)

-- one link comes before another: by the earlier episode, then by the later one
abbrev pub Precedes : ℕ × ℕ → ℕ × ℕ → Type 0
Precedes l m = (l.0 < m.0) ⊎ ((l.0 ≡ m.0) × (l.1 < m.1))

-- the output words that the fair copy of a log with `t` to words and `v` voices words needs
abbrev pub fair_need : ℕ → ℕ → ℕ
fair_need t v = 2 + 2 * t + v
