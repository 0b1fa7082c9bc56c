-- Words and bits that a step leaves as they were: laws of `Outside`, of a stored word, of a part made zero, and of a matrix.
use mathlib.Core.Path.{◌≡◌, refl, ap, ◌∙◌}
use mathlib.Core.Logic.{◌≢◌}
use mathlib.Core.List.{List, ◌++◌}
use Prim.Native.Nat.{ℕ, ◌+◌, ◌-◌, ◌*◌, ◌/◌, ◌%◌, ◌^◌, ◌≤◌, ◌<◌}
use native.Mathlib.Decide.{ℕ_discrete, dec_lt}
use native.Mathlib.Omega.{arith}
use lib.ListN.{length, get_or, set, take, drop, replicate, length-set, length-append, length-drop, length-replicate, get_or-replicate, get_or-append}
use lib.Seq.{length-take-le, get_or-append-add, get_or-set_other, get_or-take, get_or-drop}
use Rattle.bits.specs.Bits.{bit, BitSet, RowJoined, RowGained}
use Rattle.bits.specs.Work.{matrix_words, Matrix, Outside}
use Rattle.bits.proofs.Rows.{bit_word, bits_words}

pub outside_none : (lo hi : ℕ) (w : List ℕ) → Outside lo hi w w
outside_none lo hi w = record { same_length = refl; before = λ i h. refl; behind = λ i h. refl }

-- one change after another
pub outside_then : {lo hi : ℕ} {u v w : List ℕ} → Outside lo hi u v → Outside lo hi v w → Outside lo hi u w
outside_then f g =
    record {
      same_length = g.same_length ∙ f.same_length;
      before = λ i h. g.before i h ∙ f.before i h;
      behind = λ i h. g.behind i h ∙ f.behind i h;
    }

pub outside_wider : {lo hi lo' hi' : ℕ} {w w' : List ℕ} → lo' ≤ lo → hi ≤ hi' → Outside lo hi w w' → Outside lo' hi' w w'
outside_wider l h o =
    record { same_length = o.same_length; before = λ i k. o.before i (omega arith); behind = λ i k. o.behind i (omega arith) }

pub outside_set : {lo hi : ℕ} (w : List ℕ) (i x : ℕ) → lo ≤ i → i < hi → Outside lo hi w (set w i x)
outside_set w i x l h =
    record {
      same_length = length-set w i x;
      before = λ j k. get_or-set_other w i j x 0 (λ e. absurd (omega arith));
      behind = λ j k. get_or-set_other w i j x 0 (λ e. absurd (omega arith));
    }

-- one more word stored
pub outside_more : {lo hi : ℕ} {w w' : List ℕ} (i x : ℕ) → lo ≤ i → i < hi → Outside lo hi w w' → Outside lo hi w (set w' i x)
outside_more {w' = w'} i x l h o = outside_then o (outside_set w' i x l h)

-- ---- the bits of a row

module _ {lo hi : ℕ} {w w' : List ℕ} (o : Outside lo hi w w') where
  pub bit_before : (row b : ℕ) → row + 8 ≤ lo → b < 256 → bit w' row b ≡ bit w row b
  bit_before row b h k = bit_word w w' row b (o.before (row + b / 32) (omega arith))

  pub bit_behind : (row b : ℕ) → hi ≤ row → bit w' row b ≡ bit w row b
  bit_behind row b h = bit_word w w' row b (o.behind (row + b / 32) (omega arith))

-- a row of bits apart from the word
pub bit_stored : (w : List ℕ) (i x row b : ℕ) → row + b / 32 ≢ i → bit (set w i x) row b ≡ bit w row b
bit_stored w i x row b ne = bit_word w (set w i x) row b (get_or-set_other w i (row + b / 32) x 0 ne)

-- one bit of a row set leaves the other bits of the matrix
pub set_other : {w w' : List ℕ} (base a b : ℕ) → b < 256 → BitSet w w' (base + 8 * a) b → (x y : ℕ) → y < 256
    → ((x ≡ a) × (y ≡ b) → ⊥) → bit w' (base + 8 * x) y ≡ bit w (base + 8 * x) y
set_other {w} {w'} base a b hb s x y hy ne = go (ℕ_discrete x a)
  where
    go : Dec (x ≡ a) → bit w' (base + 8 * x) y ≡ bit w (base + 8 * x) y
    go (yes e) = rw e (s.others y (λ f. ne (e, f)))
    go (no d) = bit_word w w' (base + 8 * x) y (s.words (base + 8 * x + y / 32) (λ f. d (omega arith)))

-- ---- one row of a matrix changed

pub set_outside : {w w' : List ℕ} (row b : ℕ) → b < 256 → BitSet w w' row b → Outside row (row + 8) w w'
set_outside row b hb s =
    record { same_length = s.same_length; before = λ i h. s.words i (omega arith); behind = λ i h. s.words i (omega arith) }

pub joined_outside : {w w' : List ℕ} {base a k : ℕ} → RowJoined w w' base a k → Outside (base + 8 * a) (base + 8 * a + 8) w w'
joined_outside j = record { same_length = j.same_length; before = j.before; behind = j.behind }

pub gained_outside : {v w w' : List ℕ} {row : ℕ} → RowGained v w w' row → Outside row (row + 8) w w'
gained_outside j = record { same_length = j.same_length; before = j.before; behind = j.behind }

-- leaves the bits of the others
pub row_other : {w w' : List ℕ} (base a : ℕ) → Outside (base + 8 * a) (base + 8 * a + 8) w w' → (x y : ℕ) → y < 256 → x ≢ a
    → bit w' (base + 8 * x) y ≡ bit w (base + 8 * x) y
row_other {w} {w'} base a o x y hy ne = bits_words w w' (base + 8 * x) y hy (λ i lo hi. far i lo hi (dec_lt x a))
  where
    far : (i : ℕ) → base + 8 * x ≤ i → i < base + 8 * x + 8 → Dec (x < a) → get_or w' i 0 ≡ get_or w i 0
    far i lo hi (yes l) = o.before i (omega arith)
    far i lo hi (no l) = o.behind i (let d : a < x = omega (arith, ne) in omega arith)

-- the bits of a matrix in words that are the same, at `p` and at `q`
pub bit_moved : (u v : List ℕ) (p q : ℕ) → ((i : ℕ) → i < matrix_words → get_or v (q + i) 0 ≡ get_or u (p + i) 0) → (a b : ℕ) → a < 256 → b < 256
    → bit v (q + 8 * a) b ≡ bit u (p + 8 * a) b
unfolding bit
bit_moved u v p q f a b ha hb =
    let e : q + (8 * a + b / 32) ≡ q + 8 * a + b / 32 = omega arith in
    let g : p + (8 * a + b / 32) ≡ p + 8 * a + b / 32 = omega arith in
    ap (λ (x : ℕ). x / 2 ^ (b % 32) % 2) (rw (e, g) at (f (8 * a + b / 32) (omega arith)))

-- a matrix before the words that may have changed
pub matrix_before : {base lo hi : ℕ} {w w' : List ℕ} {R : ℕ → ℕ → Type 0} → base + matrix_words ≤ lo → Outside lo hi w w' → Matrix base w R
    → Matrix base w' R
matrix_before {base} {w = w} {w' = w'} h p m =
    record {
      sound = λ a b ha hb e. m.sound a b ha hb (rw (same a b ha hb) at e);
      complete = λ a b ha hb r. rw (same a b ha hb) (m.complete a b ha hb r);
    }
  where
    same : (a b : ℕ) → a < 256 → b < 256 → bit w' (base + 8 * a) b ≡ bit w (base + 8 * a) b
    same a b ha hb = bits_words w w' (base + 8 * a) b hb (λ i lo hi. p.before i (omega arith))

-- the words from `lo` on and before `hi` are zero, the others are those of `w`
pub record Cleared (lo hi : ℕ) (w w' : List ℕ) : Type 0 where
  pub outside : Outside lo hi w w'
  pub zeros : (i : ℕ) → lo ≤ i → i < hi → get_or w' i 0 ≡ 0

get_d_past : (xs ys : List ℕ) (n i : ℕ) → length xs ≡ n → n ≤ i → get_or (xs ++ ys) i 0 ≡ get_or ys (i - n) 0
get_d_past xs ys n i e h =
    let f : length xs + (i - n) ≡ i = omega arith in
    rw f at (get_or-append-add xs ys (i - n) 0)

-- the front, a part of `k` words that is made zero, and the back
pub part_cleared : (w part : List ℕ) (lo k hi : ℕ) → hi ≡ lo + k → hi ≤ length w → part ≡ replicate (length (take k (drop lo w))) 0
    → Cleared lo hi w (take lo w ++ (part ++ drop k (drop lo w)))
part_cleared w part lo k hi sum fits e =
    record {
      outside =
          record {
            same_length =
                length-append front rest
                ∙ (let l : length rest ≡ length part + length back = length-append part back in
                let b : length back ≡ length (drop lo w) - k = length-drop k (drop lo w) in
                let d : length (drop lo w) ≡ length w - lo = length-drop lo w in omega (arith, front_length, part_length));
            before = λ i h. get_or-append front rest 0 i (omega (arith, front_length)) ∙ get_or-take lo w i 0 h;
            behind = λ i h.
                let g : lo + (k + (i - lo - k)) ≡ i = omega arith in
                get_d_past front rest lo i front_length (omega arith)
                ∙ get_d_past part back k (i - lo) part_length (omega arith)
                ∙ get_or-drop k (drop lo w) (i - lo - k) 0
                ∙ get_or-drop lo w (k + (i - lo - k)) 0
                ∙ ap (λ (j : ℕ). get_or w j 0) g;
          };
      zeros = λ i h l.
          get_d_past front rest lo i front_length h
          ∙ get_or-append part back 0 (i - lo) (omega (arith, part_length))
          ∙ ap (λ (q : List ℕ). get_or q (i - lo) 0) e
          ∙ get_or-replicate (length (take k (drop lo w))) (i - lo) 0 0 (omega (arith, middle_length));
    }
  where
    front : List ℕ
    front = take lo w

    back : List ℕ
    back = drop k (drop lo w)

    rest : List ℕ
    rest = part ++ back

    front_length : length (take lo w) ≡ lo
    front_length = length-take-le lo w (omega arith)

    middle_length : length (take k (drop lo w)) ≡ k
    middle_length = length-take-le k (drop lo w) (omega (arith, length-drop lo w))

    part_length : length part ≡ k
    part_length = rw e (length-replicate (length (take k (drop lo w))) 0 ∙ middle_length)
