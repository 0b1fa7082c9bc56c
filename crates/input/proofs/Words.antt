-- How the words of bytes are written, one by one.
use mathlib.Core.Path.{◌≡◌, refl, ap, sym, ◌∙◌}
use mathlib.Core.List.{List, [], ◌∷◌, ◌++◌, append-nil, append_assoc}
use Prim.Native.Nat.{ℕ, ◌+◌, ◌*◌, ◌≤◌, ◌<◌}
use native.Mathlib.Numerals.{add-one}
use native.Mathlib.Omega.{arith}
use lib.ListN.{length, set, get_or, take, drop, drop_of_length-le}
use lib.Seq.{drop-cons, take-suc-set}
use Rattle.std.proofs.lemmas.List.{take_all}
use Rattle.input.specs.Input.{words_of, word_at}

next_byte : (b : List ℕ) (at next : ℕ) → at < length b → next ≡ at + 1 → drop at b ≡ get_or b at 0 ∷ drop next b
next_byte b at next h e = rw (e, add-one) (drop-cons b at 0 h)

four_bytes : (b : List ℕ) (at next : ℕ) → at + 4 ≤ length b → next ≡ at + 4
    → drop at b ≡ get_or b at 0 ∷ get_or b (at + 1) 0 ∷ get_or b (at + 2) 0 ∷ get_or b (at + 3) 0 ∷ drop next b
four_bytes b at next h e =
    rw (
      next_byte b at (at + 1) (omega arith) refl,
      next_byte b (at + 1) (at + 2) (omega arith) (omega arith),
      next_byte b (at + 2) (at + 3) (omega arith) (omega arith),
      next_byte b (at + 3) next (omega arith) (omega arith),
    )

-- where four bytes are left, their word comes next
next_word : (b : List ℕ) (at next : ℕ) → at + 4 ≤ length b → next ≡ at + 4 → words_of (drop at b) ≡ word_at b at ∷ words_of (drop next b)
unfolding words_of
next_word b at next h e = ap words_of (four_bytes b at next h e)

-- `w` begins with the words of the first 4 i bytes of `b`
abbrev pub Written : List ℕ → List ℕ → ℕ → Type 0
Written b w i = take i w ++ words_of (drop (4 * i) b) ≡ words_of b

pub one_more : (b w : List ℕ) (i : ℕ) → 4 * i + 4 ≤ length b → i < length w → Written b w i → Written b (set w i (word_at b (4 * i))) (i + 1)
one_more b w i h l done =
    let v = word_at b (4 * i) in
    let longer : take (i + 1) (set w i v) ≡ take i w ++ (v ∷ []) = rw (add-one i) (take-suc-set w i v l) in
    ap (λ (p : List ℕ). p ++ words_of (drop (4 * (i + 1)) b)) longer
    ∙ append_assoc (take i w) (v ∷ []) (words_of (drop (4 * (i + 1)) b))
    ∙ ap (λ (q : List ℕ). take i w ++ q) (sym (next_word b (4 * i) (4 * (i + 1)) h (omega arith)))
    ∙ done

pub all_written : (b w : List ℕ) (i : ℕ) → length b ≡ 4 * i → length w ≡ i → Written b w i → w ≡ words_of b
unfolding words_of
all_written b w i e l done =
    let none : words_of (drop (4 * i) b) ≡ [] = ap words_of (drop_of_length-le b {i = 4 * i} (omega arith)) in
    sym (append-nil w) ∙ ap (λ (q : List ℕ). w ++ q) (sym none)
    ∙ ap (λ (p : List ℕ). p ++ words_of (drop (4 * i) b)) (sym (take_all i w (omega arith))) ∙ done
