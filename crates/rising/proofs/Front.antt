-- What holds of the front of a list of words, the first `items_at` of them, holds of the list, whose other words stay as they were.
use mathlib.Core.Path.{◌≡◌, ap, ◌∙◌}
use mathlib.Core.List.{List, ◌++◌}
use Prim.Native.Nat.{ℕ, ◌+◌, ◌-◌, ◌≤◌, ◌<◌}
use native.Mathlib.Decide.{dec_lt}
use native.Mathlib.Omega.{arith}
use lib.ListN.{length, get_or, drop, length-append, length-drop, get_or-append}
use lib.Seq.{length-take-le, get_or-take, get_or-drop}
use Rattle.std.specs.Array.{IsFirstChunk}
use Rattle.std.proofs.lemmas.List.{get_or-append_right}
use Rattle.bits.specs.Work.{links_at, ways_at, matrix_words, Matrix, Outside, items_at}
use Rattle.bits.proofs.Frames.{bit_moved}
use Rattle.rising.specs.Rising.{RisingReached}

-- a matrix in words that are the same, at `p` and at `q`
pub matrix_same : {R : ℕ → ℕ → Type 0} (p q : ℕ) {u v : List ℕ} → ((i : ℕ) → i < matrix_words → get_or v (q + i) 0 ≡ get_or u (p + i) 0) → Matrix p u R
    → Matrix q v R
matrix_same p q {u} {v} f m =
    record {
      sound = λ a b ha hb o. m.sound a b ha hb (rw (bit_moved u v p q f a b ha hb) at o);
      complete = λ a b ha hb r. rw (bit_moved u v p q f a b ha hb) (m.complete a b ha hb r);
    }

-- `f` is the front of `w`
module _ {w f : List ℕ} (s : IsFirstChunk w f items_at) where
  pub word_front : (i : ℕ) → i < items_at → get_or f i 0 ≡ get_or w i 0
  word_front i h = rw s.same (get_or-take items_at w i 0 h)

  -- and `f'` takes its place
  module _ {lo hi : ℕ} (f' : List ℕ) (o : Outside lo hi f f') where
    many : length f' ≡ items_at
    many = o.same_length ∙ rw s.same (length-take-le items_at w s.enough)

    pub matrix_all : (base : ℕ) {R : ℕ → ℕ → Type 0} → base + matrix_words ≤ items_at → Matrix base f' R → Matrix base (f' ++ drop items_at w) R
    matrix_all base h = matrix_same base base (λ i l. get_or-append f' (drop items_at w) 0 (base + i) (omega (arith, many)))

    word_all : (i : ℕ) → get_or f' i 0 ≡ get_or f i 0 → Dec (i < items_at) → get_or (f' ++ drop items_at w) i 0 ≡ get_or w i 0
    word_all i e (yes l) = get_or-append f' (drop items_at w) 0 i (omega (arith, many)) ∙ e ∙ word_front i l
    word_all i e (no l) =
        let back : items_at + (i - items_at) ≡ i = omega arith in
        get_or-append_right f' (drop items_at w) items_at i 0 many (omega arith) ∙ get_or-drop items_at w (i - items_at) 0 ∙ ap (λ (j : ℕ). get_or w j 0) back

    pub outside_all : Outside lo hi w (f' ++ drop items_at w)
    outside_all =
        record {
          same_length = length-append f' (drop items_at w) ∙ omega (arith, many, length-drop items_at w, s.enough);
          before = λ i h. word_all i (o.before i h) (dec_lt i items_at);
          behind = λ i h. word_all i (o.behind i h) (dec_lt i items_at);
        }

  pub rising_all : {f' : List ℕ} {n : ℕ} → RisingReached f f' n → RisingReached w (f' ++ drop items_at w) n
  rising_all {f'} r =
      record {
        outside = outside_all f' r.outside;
        ways = λ g ends e rise l.
            matrix_all f' r.outside ways_at (omega arith)
            (r.ways g ends e rise (matrix_same links_at links_at (λ i h. word_front (links_at + i) (omega arith)) l));
      }
