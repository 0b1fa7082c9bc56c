-- The different links of a graph, and how many there are.
use Rattle.std.specs.Prelude.{Bool, true, false, ◌&&◌, ◌||◌, List, [], ◌∷◌, ℕ, eqb, length}
use Rattle.paths.specs.Graph.{Graph}

-- whether the link from `a` to `b` is among the links
unfoldable pub linked : ℕ → ℕ → List (ℕ × ℕ) → Bool
linked a b [] = false
linked a b (l ∷ ls) = (eqb a l.0 && eqb b l.1) || linked a b ls

-- the different links: one that is given again further on is left out
unfoldable pub distinct : List (ℕ × ℕ) → List (ℕ × ℕ)
distinct [] = []
distinct (l ∷ ls) = elim (linked l.0 l.1 ls) [ true ↦ distinct ls | false ↦ l ∷ distinct ls ]

-- the link count: how many different links there are, a link being an ordered pair of episodes
abbrev pub link_count : Graph → ℕ
link_count g = length (distinct g.links)
