-- The fair copy as it was defined before there were pauses, word for word: what the copies of older logs are held to.
use Rattle.std.specs.Prelude.{List, [], ◌∷◌, ◌++◌, map, ℕ, zero, suc, length}
use Rattle.paths.specs.Graph.{Graph}
use Rattle.logs.specs.Words.{word}
use Rattle.copying.specs.FairCopy.{linked_to, group_links}

-- one group: a from word and its to words, or no words where there are no links
unfoldable pub group : ℕ → List ℕ → List ℕ
group a [] = []
group a (b ∷ bs) = word 2 a ∷ map (word 3) (b ∷ bs)

-- the groups of the episodes below `k`, rising
unfoldable pub groups : Graph → ℕ → List ℕ
groups g zero = []
groups g (suc a) = groups g a ++ group a (linked_to a g.links g.n)

-- the fair copy: the head, the groups, and the end with the count of to words
unfoldable pub fair_words : Graph → List ℕ
fair_words g = word 1 g.n ∷ groups g g.n ++ word 15 (length (group_links g g.n)) ∷ []
