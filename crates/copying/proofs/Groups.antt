-- The words of a group, once the numbers that pass a test have been written: those that are marked in a row, or others.
use mathlib.Core.Path.{◌≡◌, refl, sym, ◌∙◌}
use mathlib.Core.Logic.{◌≢◌}
use mathlib.Core.Bool.{Bool, true, false}
use mathlib.Core.List.{List, [], ◌∷◌, map}
use Prim.Native.Nat.{ℕ, ◌+◌, ◌≤◌, ◌<◌}
use native.Mathlib.Omega.{arith}
use lib.ListN.{length, get_or, set, length-append}
use borrow.Author.Tests.{eq-eqb, ne_eqb}
use Rattle.paths.specs.Passing.{passing}
use Rattle.paths.proofs.Passing.{passing_more, passing_le}
use Rattle.logs.specs.Words.{word, to_word}
use Rattle.writing.specs.Layout.{BeginsWith}
use Rattle.writing.proofs.Buffers.{begins_itself, begins_first, begins_length}
use Rattle.copying.specs.FairCopy.{group}
use Rattle.copying.specs.Copying.{marked_at, marked, LinksWritten, GroupWritten}

-- a mark is a word that is not 0
pub is_marked : (row : List ℕ) (b : ℕ) → get_or row b 0 ≢ 0 → marked_at row b ≡ true
is_marked row b ne = rw (ne_eqb (get_or row b 0) 0 ne)

pub not_marked : (row : List ℕ) (b : ℕ) → get_or row b 0 ≡ 0 → marked_at row b ≡ false
not_marked row b e = rw (eq-eqb (get_or row b 0) 0 e)

-- there is room for a number that passes behind those below it
pub passing_room : (test : ℕ → Bool) (b n : ℕ) → b < n → test b ≡ true → length (passing test b) + 1 ≤ length (passing test n)
passing_room test b n h e =
    let more : length (passing test (b + 1)) ≡ length (passing test b) + 1 = rw (passing_more test b e) (length-append (passing test b) (b ∷ [])) in
    let some = passing_le test (b + 1) n (omega arith) in
    omega arith

pub marked_room : (row : List ℕ) (b : ℕ) → b < length row → get_or row b 0 ≢ 0 → length (marked row b) + 1 ≤ length (marked row (length row))
marked_room row b h ne = passing_room (marked_at row) b (length row) h (is_marked row b ne)

-- the from word of a group goes in front of its to words; a group of no links has no words
module _ (a : ℕ) {pause : ℕ → ℕ} {o o' : List ℕ} {links : ℕ} where
  pub from_put : (bs : List ℕ) → LinksWritten pause bs o o' links → links ≢ 0 → GroupWritten a pause bs o (set o' 0 (word 2 a)) links
  unfolding group
  from_put bs s ne = record { count = s.count; words = go bs (λ e. ne (s.count ∙ e)) s.words }
    where
      go : (bs : List ℕ) → length bs ≢ 0 → BeginsWith (get_or o 0 0 ∷ map (λ (b : ℕ). to_word b (pause b)) bs) o o'
          → BeginsWith (group a pause bs) o (set o' 0 (word 2 a))
      go [] none w = absurd (none refl)
      go (b ∷ bs) none w = begins_first (get_or o 0 0) (word 2 a) (map (λ (c : ℕ). to_word c (pause c)) (b ∷ bs)) o o' w

  pub from_left : (bs : List ℕ) → LinksWritten pause bs o o' links → links ≡ 0 → 0 < length o' → GroupWritten a pause bs o o' links
  unfolding group
  from_left bs s e long = record { count = s.count; words = go bs (sym s.count ∙ e) s.words }
    where
      go : (bs : List ℕ) → length bs ≡ 0 → BeginsWith (get_or o 0 0 ∷ map (λ (b : ℕ). to_word b (pause b)) bs) o o' → BeginsWith (group a pause bs) o o'
      go [] none w = (omega arith, w.1 ∙ sym (begins_itself o (omega (arith, begins_length (get_or o 0 0 ∷ []) o o' w))).1)
      go (b ∷ bs) none w = absurd (omega arith)
