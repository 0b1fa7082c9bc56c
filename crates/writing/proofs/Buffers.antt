-- Laws of a buffer that begins with words: one more word behind them, another first word, and a part behind them that begins with words.
use mathlib.Core.Path.{◌≡◌, refl, sym, ap, ap₂, subst, ◌∙◌}
use mathlib.Core.List.{map, map-append, List, [], ◌∷◌, ◌++◌, append_assoc, append-nil}
use Prim.Native.Nat.{ℕ, suc, ◌+◌, ◌-◌, ◌≤◌, ◌<◌}
use native.Mathlib.Omega.{arith}
use lib.ListN.{length-map, length, get_or, set, take, drop, length-append, length-drop, length-set, drop_of_length-le}
use lib.Seq.{take_all, drop-cons, append_snoc, set_at, take_at, drop_at, drop-drop, drop-set-lt}
use Rattle.writing.specs.Layout.{BeginsWith}

pub length_snoc : {A : Type 0} (l : List A) (x : A) → length (l ++ (x ∷ [])) ≡ length l + 1
length_snoc l x = length-append l (x ∷ [])

-- a buffer begins with no words
pub begins_none : (o : List ℕ) → BeginsWith [] o o
begins_none o = (omega arith, refl)

module _ (ws o o' : List ℕ) (b : BeginsWith ws o o') where
  pub begins_length : length o' ≡ length o
  begins_length =
      let e : length o' ≡ length (ws ++ drop (length ws) o) = ap length b.1 in
      let f : length (ws ++ drop (length ws) o) ≡ length ws + length (drop (length ws) o) = length-append ws (drop (length ws) o) in
      let d = length-drop (length ws) o in
      let le : length ws ≤ length o = b.0 in
      omega arith

  -- so many words are these, and behind them stands what was there
  pub begins_words : (c : ℕ) → length ws ≡ c → (take c o' ≡ ws) × (o' ≡ take c o' ++ drop c o)
  begins_words c count =
      let words : take c o' ≡ ws = rw b.1 (take_at ws (drop (length ws) o) c count) in
      (words, rw (words, ← count) b.1)

  -- a word is stored behind them
  pub begins_more : (i x : ℕ) → i ≡ length ws → i < length o → BeginsWith (ws ++ (x ∷ [])) o (set o' i x)
  begins_more i x e h =
      let s : length (ws ++ (x ∷ [])) ≡ suc (length ws) = let f = length_snoc ws x in omega arith in
      let h' : length ws < length o = omega arith in (
        omega arith,
        ap (λ (l : List ℕ). set l i x) (b.1 ∙ ap (λ (l : List ℕ). ws ++ l) (drop-cons o (length ws) 0 h'))
            ∙ set_at ws (get_or o (length ws) 0) (drop (suc (length ws)) o) x i (sym e)
            ∙ sym (append_snoc ws x (drop (suc (length ws)) o))
            ∙ ap (λ (k : ℕ). ws ++ (x ∷ []) ++ drop k o) (sym s),
      )

  -- the part behind them comes to begin with words
  pub begins_part : (vs p : List ℕ) (i : ℕ) → i ≡ length ws → BeginsWith vs (drop i o') p → BeginsWith (ws ++ vs) o (take i o' ++ p)
  begins_part vs p i e c =
      let rest : drop i o' ≡ drop i o =
      ap (drop i) b.1 ∙ drop_at ws (drop (length ws) o) i (sym e) ∙ ap (λ (k : ℕ). drop k o) (sym e) in
      let front : take i o' ≡ ws = ap (take i) b.1 ∙ take_at ws (drop (length ws) o) i (sym e) in
      let both : length (ws ++ vs) ≡ length ws + length vs = length-append ws vs in
      let le : length vs ≤ length (drop i o') = c.0 in
      let lo : length (drop i o') ≡ length (drop i o) = ap length rest in
      let ld = length-drop i o in
      let lw : length ws ≤ length o = b.0 in
      let k : i + length vs ≡ length (ws ++ vs) = omega arith in (
        omega arith,
        ap₂ (λ (l r : List ℕ). l ++ r) front
            (c.1 ∙ ap (λ (l : List ℕ). vs ++ drop (length vs) l) rest
            ∙ ap (λ (l : List ℕ). vs ++ l) (drop-drop (length vs) i o ∙ ap (λ (k : ℕ). drop k o) k))
            ∙ sym (append_assoc ws vs (drop (length (ws ++ vs)) o)),
      )

-- a part that is lent from `i` on is all that is there, and nothing is behind it
pub lent_part : (o : List ℕ) (i : ℕ) → take (length o - i) (drop i o) ≡ drop i o
lent_part o i = take_all (length o - i) (drop i o) (let e = length-drop i o in omega arith)

pub lent_rest : (o p : List ℕ) (i : ℕ) → p ++ drop (length o - i) (drop i o) ≡ p
lent_rest o p i =
    ap (λ (l : List ℕ). p ++ l) (drop_of_length-le (drop i o) {i = length o - i} (let e = length-drop i o in omega arith)) ∙ append-nil p

-- the first word is stored anew
pub begins_first : (y x : ℕ) (ws o o' : List ℕ) → BeginsWith (y ∷ ws) o o' → BeginsWith (x ∷ ws) o (set o' 0 x)
begins_first y x ws o o' b = (b.0, ap (λ (l : List ℕ). set l 0 x) b.1)

-- a buffer in which the second word has been stored begins with it and the first
pub begins_second : (x : ℕ) (o : List ℕ) → 1 < length o → BeginsWith (get_or o 0 0 ∷ x ∷ []) (set o 1 x) (set o 1 x)
begins_second x o h =
    let both =
    begins_more (get_or o 0 0 ∷ []) o o (let le : 0 < length o = omega arith in (omega arith, drop-cons o 0 0 le)) 1 x refl h in
    (simp length-set (omega arith), both.1 ∙ ap (λ (l : List ℕ). get_or o 0 0 ∷ x ∷ l) (sym (drop-set-lt 2 o 1 x (omega arith))))

-- what was stored among the words before does not matter
pub begins_over : (ws o o' : List ℕ) (i x : ℕ) → i < length ws → BeginsWith ws (set o i x) o' → BeginsWith ws o o'
begins_over ws o o' i x h b =
    let e = length-set o i x in
    let le : length ws ≤ length (set o i x) = b.0 in
    (omega arith, b.1 ∙ ap (λ (l : List ℕ). ws ++ l) (drop-set-lt (length ws) o i x h))

-- its own first word
pub begins_itself : (o : List ℕ) → 0 < length o → BeginsWith (get_or o 0 0 ∷ []) o o
begins_itself o h = (omega arith, drop-cons o 0 0 h)

-- a number's word is written behind a first word and those of other numbers
pub begins_word : (form : ℕ → ℕ) (y x at : ℕ) (l o o' : List ℕ) → BeginsWith (y ∷ map form l) o o' → at ≡ length l + 1 → at < length o
    → BeginsWith (y ∷ map form (l ++ x ∷ [])) o (set o' at (form x))
begins_word form y x at l o o' b e h =
    subst (λ (ws : List ℕ). BeginsWith (y ∷ ws) o (set o' at (form x))) (sym (map-append form l (x ∷ [])))
    (begins_more (y ∷ map form l) o o' b at (form x) (let f = length-map l form in omega arith) h)
