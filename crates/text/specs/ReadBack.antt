-- What is read back from a text: the figures of its lines.
use Rattle.std.specs.Prelude.{true, false, List, [], ◌∷◌, map, ℕ, eqb, drop}
use Rattle.std.specs.Str.Parse.{digits_value}

-- a byte in front of the first piece
abbrev pub in_front : ℕ → List (List ℕ) → List (List ℕ)
in_front b [] = (b ∷ []) ∷ []
in_front b (p ∷ ps) = (b ∷ p) ∷ ps

-- the pieces of bytes, each of which ends before a byte `s` or where the bytes end
unfoldable pub pieces : ℕ → List ℕ → List (List ℕ)
pieces s [] = []
pieces s (b ∷ bs) = elim (eqb b s) [ true ↦ [] ∷ pieces s bs | false ↦ in_front b (pieces s bs) ]

-- the figures of a line, the numbers behind its name: its pieces between spaces but for the first
abbrev pub line_figures : List ℕ → List ℕ
line_figures bytes = map (digits_value 10) (drop 1 (pieces 32 bytes))

-- the figures of a text, line by line
abbrev pub text_figures : List ℕ → List (List ℕ)
text_figures bytes = map line_figures (pieces 10 bytes)
