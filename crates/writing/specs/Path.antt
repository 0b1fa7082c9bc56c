-- What is written of a path.
use Rattle.std.specs.Prelude.{◌≡◌, List, [], ◌∷◌, ◌++◌, map, ℕ, ◌+◌, length}
use Rattle.paths.specs.Graph.{Graph, Thread}
use Rattle.logs.specs.Words.{word}
use Rattle.writing.specs.Layout.{BeginsWith}
use Rattle.writing.specs.Writing.{Solved}

-- the steps of a path from `c` to `b` but for `c`, in `r` words
pub record PathWritten (w o o' : List ℕ) (n m c b r : ℕ) : Type 0 where
  pub between : List ℕ
  pub size : r ≡ length between + 1
  pub words : BeginsWith (map (word 7) (between ++ (b ∷ []))) o o'
  pub of : (g : Graph) → Solved g n m w → Thread g (c ∷ (between ++ (b ∷ [])))
