-- What is printed of a refusal, and of the numbers of words.
use Rattle.std.specs.Prelude.{true, false, List, [], ◌++◌, flat_map, ℕ, eqb, codes, decimal}
use Rattle.logs.specs.Words.{kind, number}

-- a refusal: its number and its place
abbrev pub refusal_shown : ℕ → ℕ → List ℕ
refusal_shown q p = codes "refused " ++ (decimal q ++ (codes " at " ++ decimal p))

-- the number of a word of kind `k`, behind one space; nothing of another word
abbrev pub number_shown : ℕ → ℕ → List ℕ
number_shown k w = elim (eqb (kind w) k) [ true ↦ codes " " ++ decimal (number w) | false ↦ [] ]

-- the numbers of the words of kind `k`
abbrev pub numbers_shown : ℕ → List ℕ → List ℕ
numbers_shown k = flat_map (number_shown k)
