-- A matrix that is copied word by word to where another stands behind it. The invariant: the first `i` words are copied, and none outside the other
-- matrix has changed.
use mathlib.Core.Path.{◌≡◌, ◌∙◌}
use native.Mathlib.Decide.{ℕ_discrete}
use mathlib.Core.List.{List}
use Prim.Native.Nat.{ℕ, ◌+◌, ◌<◌, ◌≤◌}
use native.Mathlib.Omega.{arith}
use lib.ListN.{length, get_or, set}
use lib.Seq.{get_or-set_same, get_or-set_other}
use Rattle.bits.specs.Work.{matrix_words, Outside, MatrixCopied}
use Rattle.bits.proofs.Frames.{outside_none, outside_more}

pub record Copying (w w' : List ℕ) (from to i : ℕ) : Type 0 where
  pub outside : Outside to (to + matrix_words) w w'
  pub words : (j : ℕ) → j < i → get_or w' (to + j) 0 ≡ get_or w (from + j) 0

pub copying_none : (w : List ℕ) (from to : ℕ) → Copying w w from to 0
copying_none w from to = record { outside = outside_none to (to + matrix_words) w; words = λ j h. absurd (omega arith) }

module _ {w w' : List ℕ} {from to i : ℕ} (s : Copying w w' from to i) where
  pub copying_more : from + matrix_words ≤ to → to + matrix_words ≤ length w → i < matrix_words
      → Copying w (set w' (to + i) (get_or w' (from + i) 0)) from to (i + 1)
  copying_more apart fits h =
      record { outside = outside_more (to + i) x (omega arith) (omega arith) s.outside; words = λ j l. word j l (ℕ_discrete j i) }
    where
      x : ℕ
      x = get_or w' (from + i) 0

      word : (j : ℕ) → j < i + 1 → Dec (j ≡ i) → get_or (set w' (to + i) x) (to + j) 0 ≡ get_or w (from + j) 0
      word j l (yes e) = rw e (get_or-set_same w' (to + i) x 0 (omega (arith, s.outside.same_length)) ∙ s.outside.before (from + i) (omega arith))
      word j l (no ne) = get_or-set_other w' (to + i) (to + j) x 0 (λ e. ne (omega arith)) ∙ s.words j (omega (arith, ne))

  pub copying_all : i ≡ matrix_words → MatrixCopied w w' from to
  copying_all e = record { outside = s.outside; words = λ j h. s.words j (omega arith) }
