-- A part of a list of words written over, and a row by itself.
use mathlib.Core.Path.{◌≡◌, sym, ap, ◌∙◌}
use mathlib.Core.List.{List, ◌++◌}
use Prim.Native.Nat.{ℕ, ◌+◌, ◌-◌, ◌/◌, ◌%◌, ◌≤◌, ◌<◌, max}
use native.Mathlib.Omega.{arith}
use lib.ListN.{length, get_or, take, drop, length-append, length-drop, get_or-append}
use lib.Seq.{length-take-le, get_or-take, get_or-drop, drop_at}
use borrow.Rule.Slice.PartMut.{mid_of, put_mid, take_put}
use Rattle.std.proofs.lemmas.Slice.{drop-put_mid}
use Rattle.bits.specs.Bits.{digit, bit, RowAdded, RowGained, RowTaken, RowCopied}

-- the words from `a` on are `ys`, in the place of `k` as many
module _ (a k : ℕ) (xs ys : List ℕ) (fits : a + k ≤ length xs) (many : length ys ≡ k) where
  pub put_length : length (put_mid a k xs ys) ≡ length xs
  put_length =
      omega (
        arith,
        length-append (take a xs) (ys ++ drop k (drop a xs)),
        length-append ys (drop k (drop a xs)),
        length-take-le a xs (omega arith),
        length-drop k (drop a xs),
        length-drop a xs,
      )

  pub put_before : (i : ℕ) → i < a → get_or (put_mid a k xs ys) i 0 ≡ get_or xs i 0
  put_before i h =
      sym (get_or-take a (put_mid a k xs ys) i 0 h) ∙ ap (λ l. get_or l i 0) (take_put a k xs ys (omega arith)) ∙ get_or-take a xs i 0 h

  pub put_behind : (i : ℕ) → a + k ≤ i → get_or (put_mid a k xs ys) i 0 ≡ get_or xs i 0
  put_behind i h =
      let e : a + k + (i - (a + k)) ≡ i = omega arith in
      rw e at (sym (get_or-drop (a + k) (put_mid a k xs ys) (i - (a + k)) 0)
      ∙ ap (λ l. get_or l (i - (a + k)) 0) (drop-put_mid a k xs ys (a + k) (omega arith) (omega arith) many) ∙ get_or-drop (a + k) xs (i - (a + k)) 0)

  pub put_here : (j : ℕ) → j < k → get_or (put_mid a k xs ys) (a + j) 0 ≡ get_or ys j 0
  put_here j h =
      sym (get_or-drop a (put_mid a k xs ys) j 0)
      ∙ ap (λ l. get_or l j 0) (drop_at (take a xs) (ys ++ drop k (drop a xs)) a (length-take-le a xs (omega arith)))
      ∙ get_or-append ys (drop k (drop a xs)) 0 j (omega arith)

-- `k` is 8 where a part is a row
module _ (w : List ℕ) (k : ℕ) (eight : k ≡ 8) where
  pub bit_row : (row b : ℕ) → b < 256 → bit (mid_of row k w) 0 b ≡ bit w row b
  unfolding bit
  bit_row row b h =
      let e : 0 + b / 32 ≡ b / 32 = omega arith in
      ap (λ (x : ℕ). digit x (b % 32)) (rw e (get_or-take k (drop row w) (b / 32) 0 (omega arith) ∙ get_or-drop row w (b / 32) 0))

  pub length_row : (row : ℕ) → row + 8 ≤ length w → length (mid_of row k w) ≡ 8
  length_row row h = omega (arith, length-take-le k (drop row w) (omega (arith, length-drop row w)))

  pub row_taken : {row : ℕ} {v : List ℕ} → row + 8 ≤ length w → v ≡ mid_of row k w → RowTaken w row v
  row_taken {row} fits e =
      record { eight = ap length e ∙ length_row row fits; taken = λ b h. ap (λ l. bit l 0 b) e ∙ bit_row row b h }

  pub row_added : {row : ℕ} {v v' : List ℕ} → RowAdded (mid_of row k w) 0 v v' → RowAdded w row v v'
  row_added {row} {v} s =
      record { same_length = s.same_length; joined = λ b h. s.joined b h ∙ ap (λ x. max (bit v 0 b) x) (bit_row row b h) }

  module _ (row : ℕ) (v : List ℕ) (fits : row + 8 ≤ length w) where
    pub bit_put : length v ≡ k → (b : ℕ) → b < 256 → bit (put_mid row k w v) row b ≡ bit v 0 b
    unfolding bit
    bit_put many b h =
        let e : 0 + b / 32 ≡ b / 32 = omega arith in
        ap (λ (x : ℕ). digit x (b % 32)) (rw e (put_here row k w v (omega arith) many (b / 32) (omega arith)))

    pub row_gained : {u : List ℕ} → RowAdded u 0 (mid_of row k w) v → RowGained u w (put_mid row k w v) row
    row_gained {u} s =
        let many : length v ≡ k = s.same_length ∙ length_row row fits ∙ sym eight in
        record {
          same_length = put_length row k w v (omega arith) many;
          before = put_before row k w v (omega arith) many;
          behind = λ i h. put_behind row k w v (omega arith) many i (omega arith);
          joined = λ b h. bit_put many b h ∙ s.joined b h ∙ ap (λ x. max x (bit u 0 b)) (bit_row row b h);
        }

    pub row_copied : {from : ℕ} → RowTaken w from v → RowCopied w (put_mid row k w v) row from
    row_copied t =
        let many : length v ≡ k = t.eight ∙ sym eight in
        record {
          same_length = put_length row k w v (omega arith) many;
          before = put_before row k w v (omega arith) many;
          behind = λ i h. put_behind row k w v (omega arith) many i (omega arith);
          copied = λ b h. bit_put many b h ∙ t.taken b h;
        }
