-- A text's figures are read back from it: no name and no number has a space or a newline in it, and a number is read back from its digits.
use mathlib.Core.Path.{◌≡◌, refl, sym, ap, ap₂, ◌∙◌}
use mathlib.Core.Bool.{Bool, true, false, ◌&&◌}
use mathlib.Core.List.{List, [], ◌∷◌, ◌++◌, map, append-nil, append_assoc}
use mathlib.Core.List.Memᴰ.{head as here, tail as there}
use Prim.Native.Nat.{ℕ, ◌+◌, ◌%◌, ◌^◌, ◌≤◌, ◌<◌}
use native.Mathlib.Omega.{arith}
use lib.Chars.{codes}
use lib.Dec.{eqb, ltb}
use lib.ListN.{length, get_or, take, drop}
use borrow.Author.Tests.{eq-eqb, ne_eqb, ltb-true, lt-ltb}
use Rattle.std.specs.Prelude.{decimal}
use Rattle.std.specs.Str.Parse.{digits_value}
use Rattle.std.proofs.lemmas.Fmt.{decimal_is_IsNumeral, decimal_by_steps, decimal_nonempty}
use Rattle.order.specs.Order.{All}
use Rattle.order.proofs.Lists.{all_nil, all_cons}
use Rattle.paths.proofs.Links.{both}
use Rattle.logs.specs.Words.{kind, number}
use Rattle.writing.specs.Layout.{apart_of, threads_of}
use Rattle.text.specs.Text.{figure, figures, line, thread_lines, report_text, refusal_text, loop_text}
use Rattle.text.specs.ReadBack.{in_front, pieces, line_figures, text_figures}

-- whether all bytes are above `k`
above : ℕ → List ℕ → Bool
above k [] = true
above k (b ∷ bs) = ltb k b && above k bs

module _ (k : ℕ) where
  above_cons : (b : ℕ) (bs : List ℕ) → k < b → above k bs ≡ true → above k (b ∷ bs) ≡ true
  unfolding above
  above_cons b bs lt all = rw (lt-ltb k b lt) all

  above_split : (b : ℕ) (bs : List ℕ) → above k (b ∷ bs) ≡ true → (k < b) × (above k bs ≡ true)
  unfolding above
  above_split b bs all = let (lt, rest) = both (ltb k b) (above k bs) all in (ltb-true k b lt, rest)

  above_append : (xs bs : List ℕ) → above k xs ≡ true → above k bs ≡ true → above k (xs ++ bs) ≡ true
  above_append [] bs a b = b
  above_append (x ∷ xs) bs a b = let (lt, rest) = above_split x xs a in above_cons x (xs ++ bs) lt (above_append xs bs rest b)

  -- the first piece, and the last
  module _ (s : ℕ) (le : s ≤ k) where
    -- a byte that is no end of a piece
    piece_more : (x : ℕ) (bs : List ℕ) → k < x → pieces s (x ∷ bs) ≡ in_front x (pieces s bs)
    unfolding pieces
    piece_more x bs lt = rw (ne_eqb x s (λ e. omega arith), pieces) refl

    pieces_front : (xs bs : List ℕ) → above k xs ≡ true → pieces s (xs ++ s ∷ bs) ≡ xs ∷ pieces s bs
    unfolding pieces
    pieces_front [] bs a = rw (eq-eqb s s refl, pieces) refl
    pieces_front (x ∷ xs) bs a =
        let (lt, rest) = above_split x xs a in
        piece_more x (xs ++ s ∷ bs) lt ∙ ap (in_front x) (pieces_front xs bs rest)

    pieces_last : (x : ℕ) (xs : List ℕ) → above k (x ∷ xs) ≡ true → pieces s (x ∷ xs) ≡ (x ∷ xs) ∷ []
    unfolding pieces
    pieces_last x [] a = piece_more x [] (above_split x [] a).0
    pieces_last x (y ∷ xs) a =
        let (lt, rest) = above_split x (y ∷ xs) a in
        piece_more x (y ∷ xs) lt ∙ ap (in_front x) (pieces_last y xs rest)

-- bytes above 32 are above 10
above_less : (bs : List ℕ) → above 32 bs ≡ true → above 10 bs ≡ true
unfolding above
above_less [] a = refl
above_less (b ∷ bs) a = let (lt, rest) = above_split 32 b bs a in above_cons 10 b bs (omega arith) (above_less bs rest)

empty : (k : ℕ) → above k [] ≡ true
unfolding above
empty k = refl

-- the bytes of a number are digits
digits_above : (n : ℕ) → n < 2 ^ 64 → above 32 (decimal n) ≡ true
digits_above =
    decimal_by_steps (λ n ds. above 32 ds ≡ true)
    (λ n few. above_cons 32 (48 + n) [] (omega arith) (empty 32))
    (λ n ds many rest. above_append 32 ds ((48 + n % 10) ∷ []) rest (above_cons 32 (48 + n % 10) [] (omega arith) (empty 32)))

-- the numbers that a figure is read back from
abbrev pub Plain : List ℕ → Type 0
Plain = All (λ n. n < 2 ^ 64)

-- a line has no newline before its end
figure_above : (n : ℕ) → n < 2 ^ 64 → above 10 (figure n) ≡ true
figure_above n small = above_cons 10 32 (decimal n) (omega arith) (above_less (decimal n) (digits_above n small))

figures_above : (ns : List ℕ) → Plain ns → above 10 (figures ns) ≡ true
unfolding above
figures_above [] small = refl
figures_above (n ∷ ns) small =
    above_append 10 (figure n) (figures ns) (figure_above n (small n (here refl))) (figures_above ns (λ v m. small v (there m)))

-- the pieces between spaces: what stands in front, and the digits of each number
pieces_figures : (x : ℕ) (xs ns : List ℕ) → above 32 (x ∷ xs) ≡ true → Plain ns
    → pieces 32 ((x ∷ xs) ++ figures ns) ≡ (x ∷ xs) ∷ map decimal ns
pieces_figures x xs [] a small = ap (pieces 32) (append-nil (x ∷ xs)) ∙ pieces_last 32 32 (omega arith) x xs a
pieces_figures x xs (n ∷ ns) a small =
    pieces_front 32 32 (omega arith) (x ∷ xs) (decimal n ++ figures ns) a
    ∙ ap (λ (ps : List (List ℕ)). (x ∷ xs) ∷ ps) (go (decimal n) refl λ y ys b. pieces_figures y ys ns b (λ v m. small v (there m)))
  where
    go : (ds : List ℕ) → decimal n ≡ ds
        → ((y : ℕ) (ys : List ℕ) → above 32 (y ∷ ys) ≡ true → pieces 32 ((y ∷ ys) ++ figures ns) ≡ (y ∷ ys) ∷ map decimal ns)
        → pieces 32 (decimal n ++ figures ns) ≡ decimal n ∷ map decimal ns
    go [] e others = let some = decimal_nonempty n (small n (here refl)) in absurd (omega (arith, some, ap length e))
    go (y ∷ ys) e others = rw e (others y ys (ap (above 32) (sym e) ∙ digits_above n (small n (here refl))))

-- the numbers are read back from their digits
values : (ns : List ℕ) → Plain ns → map (digits_value 10) (map decimal ns) ≡ ns
values [] small = refl
values (n ∷ ns) small =
    ap₂ (λ (m : ℕ) (ms : List ℕ). m ∷ ms) (decimal_is_IsNumeral n (small n (here refl))).1 (values ns (λ v m. small v (there m)))

-- a line of a text gives its figures
line_read : (name ns rest : List ℕ) → 0 < length name → above 32 name ≡ true → Plain ns
    → text_figures (line name ns ++ rest) ≡ ns ∷ text_figures rest
line_read [] ns rest some a small = absurd (omega (arith, some))
line_read (x ∷ xs) ns rest some a small =
    let body : List ℕ = (x ∷ xs) ++ figures ns in
    let plain : above 10 body ≡ true = above_append 10 (x ∷ xs) (figures ns) (above_less (x ∷ xs) a) (figures_above ns small) in
    let parts : pieces 32 body ≡ (x ∷ xs) ∷ map decimal ns = pieces_figures x xs ns a small in
    ap text_figures (append_assoc body (10 ∷ []) rest)
    ∙ ap (map line_figures) (pieces_front 10 10 (omega arith) body rest plain)
    ∙ ap (λ (ms : List ℕ). ms ∷ text_figures rest) (ap (λ (ps : List (List ℕ)). map (digits_value 10) (drop 1 ps)) parts ∙ values ns small)

-- the lines of threads give the threads
threads_read : (ts : List (List ℕ)) → All Plain ts → text_figures (thread_lines ts) ≡ ts
unfolding above pieces
threads_read [] small = refl
threads_read (t ∷ ts) small =
    line_read (codes "thread") t (thread_lines ts) (omega arith) refl (small t (here refl))
    ∙ ap (λ (us : List (List ℕ)). t ∷ us) (threads_read ts (λ u m. small u (there m)))

one_plain : (n : ℕ) → n < 2 ^ 64 → Plain (n ∷ [])
one_plain n small = all_cons small (all_nil _)

-- the numbers of words
numbers_plain : (ws : List ℕ) → Plain (map number ws)
numbers_plain [] = all_nil _
numbers_plain (w ∷ ws) = all_cons (omega arith) (numbers_plain ws)

apart_plain : (ws : List ℕ) → Plain (apart_of ws)
unfolding apart_of
apart_plain [] = all_nil _
apart_plain (w ∷ ws) = go (eqb (kind w) 5) (apart_plain ws)
  where
    go : (five : Bool) → Plain (apart_of ws) → Plain (elim five [ true ↦ number w ∷ apart_of ws | false ↦ apart_of ws ])
    go true others = all_cons (omega arith) others
    go false others = others

threads_plain : (ws : List ℕ) → All Plain (threads_of ws)
unfolding threads_of
threads_plain [] = all_nil _
threads_plain (w ∷ ws) = go (eqb (kind w) 6) (threads_plain ws)
  where
    go : (six : Bool) → All Plain (threads_of ws)
        → All Plain (elim six [ true ↦ map number (take (number w) ws) ∷ threads_of ws | false ↦ threads_of ws ])
    go true others = all_cons (numbers_plain (take (number w) ws)) others
    go false others = others

-- The text of a report gives n, the link count, the width, the apart set and the threads, in this order, and nothing else.
pub report_read : (n links : ℕ) (ws : List ℕ) → n < 2 ^ 64 → links < 2 ^ 64
    → text_figures (report_text n links ws) ≡ (n ∷ []) ∷ (links ∷ []) ∷ (number (get_or ws 0 0) ∷ []) ∷ apart_of ws ∷ threads_of ws
unfolding report_text above
report_read n links ws n_small links_small =
    let a : List ℕ = line (codes "episodes") (n ∷ []) in
    let b : List ℕ = line (codes "links") (links ∷ []) in
    let c : List ℕ = line (codes "width") (number (get_or ws 0 0) ∷ []) in
    let d : List ℕ = line (codes "apart") (apart_of ws) in
    let e : List ℕ = thread_lines (threads_of ws) in
    let order : a ++ b ++ c ++ d ++ e ≡ a ++ (b ++ (c ++ (d ++ e))) =
    append_assoc (a ++ b ++ c) d e ∙ append_assoc (a ++ b) c (d ++ e) ∙ append_assoc a b (c ++ (d ++ e)) in
    ap text_figures order
    ∙ line_read (codes "episodes") (n ∷ []) (b ++ (c ++ (d ++ e))) (omega arith) refl (one_plain n n_small)
    ∙ ap (λ (ls : List (List ℕ)). (n ∷ []) ∷ ls) (
    line_read (codes "links") (links ∷ []) (c ++ (d ++ e)) (omega arith) refl (one_plain links links_small)
    ∙ ap (λ (ls : List (List ℕ)). (links ∷ []) ∷ ls) (
    line_read (codes "width") (number (get_or ws 0 0) ∷ []) (d ++ e) (omega arith) refl (one_plain (number (get_or ws 0 0)) (omega arith))
    ∙ ap (λ (ls : List (List ℕ)). (number (get_or ws 0 0) ∷ []) ∷ ls) (
    line_read (codes "apart") (apart_of ws) e (omega arith) refl (apart_plain ws)
    ∙ ap (λ (ls : List (List ℕ)). apart_of ws ∷ ls) (threads_read (threads_of ws) (threads_plain ws))
    )
    )
    )

-- what `at` reads as, between the two figures of a refusal.
abbrev pub at_read : ℕ
at_read = digits_value 10 (codes "at")

-- a number's digits are a piece
module _ (n : ℕ) (small : n < 2 ^ 64) where
  number_front : (bs : List ℕ) → pieces 32 (decimal n ++ 32 ∷ bs) ≡ decimal n ∷ pieces 32 bs
  number_front bs = pieces_front 32 32 (omega arith) (decimal n) bs (digits_above n small)

  number_last : pieces 32 (decimal n) ≡ decimal n ∷ []
  number_last = go (decimal n) refl
    where
      go : (ds : List ℕ) → decimal n ≡ ds → pieces 32 ds ≡ ds ∷ []
      go [] e = let some = decimal_nonempty n small in absurd (omega (arith, some, ap length e))
      go (y ∷ ys) e = pieces_last 32 32 (omega arith) y ys (ap (above 32) (sym e) ∙ digits_above n small)

-- The line of a refusal gives its number and its place.
module _ (q p : ℕ) (q_small : q < 2 ^ 64) (p_small : p < 2 ^ 64) where
  abbrev refused_line : List ℕ
  refused_line = codes "refused" ++ figure q ++ codes " at" ++ figure p

  refused_above : above 10 refused_line ≡ true
  unfolding above
  refused_above =
      above_append 10 (codes "refused" ++ figure q ++ codes " at") (figure p)
      (above_append 10 (codes "refused" ++ figure q) (codes " at") (above_append 10 (codes "refused") (figure q) refl (figure_above q q_small)) refl)
      (figure_above p p_small)

  refused_pieces : pieces 32 refused_line ≡ codes "refused" ∷ decimal q ∷ codes "at" ∷ decimal p ∷ []
  unfolding above
  refused_pieces =
      let behind : List ℕ = codes "at" ++ 32 ∷ decimal p in
      ap (λ (bs : List ℕ). pieces 32 (codes "refused" ++ 32 ∷ bs)) (append_assoc (decimal q) (codes " at") (figure p))
      ∙ pieces_front 32 32 (omega arith) (codes "refused") (decimal q ++ 32 ∷ behind) refl
      ∙ ap (λ (ps : List (List ℕ)). codes "refused" ∷ ps) (
      number_front q q_small behind
      ∙ ap (λ (ps : List (List ℕ)). decimal q ∷ ps) (
      pieces_front 32 32 (omega arith) (codes "at") (decimal p) refl
      ∙ ap (λ (ps : List (List ℕ)). codes "at" ∷ ps) (number_last p p_small)
      )
      )

  pub refusal_read : (rest : List ℕ) → text_figures (refusal_text q p ++ rest) ≡ (q ∷ at_read ∷ p ∷ []) ∷ text_figures rest
  unfolding refusal_text
  refusal_read rest =
      ap text_figures (append_assoc refused_line (10 ∷ []) rest)
      ∙ ap (map line_figures) (pieces_front 10 10 (omega arith) refused_line rest refused_above)
      ∙ ap (λ (ms : List ℕ). ms ∷ text_figures rest) (
      ap (λ (ps : List (List ℕ)). map (digits_value 10) (drop 1 ps)) refused_pieces
      ∙ ap₂ (λ (x y : ℕ). x ∷ at_read ∷ y ∷ []) (decimal_is_IsNumeral q q_small).1 (decimal_is_IsNumeral p p_small).1
      )

-- The lines of a loop give its length and its episodes.
pub loop_read : (c : ℕ) (steps : List ℕ) → c < 2 ^ 64
    → text_figures (loop_text c steps) ≡ (13 ∷ at_read ∷ c ∷ []) ∷ map number steps ∷ []
unfolding loop_text above pieces
loop_read c steps small =
    refusal_read 13 c (omega arith) small (line (codes "loop") (map number steps))
    ∙ ap (λ (ls : List (List ℕ)). (13 ∷ at_read ∷ c ∷ []) ∷ ls) (
    ap text_figures (sym (append-nil (line (codes "loop") (map number steps))))
    ∙ line_read (codes "loop") (map number steps) [] (omega arith) refl (numbers_plain steps)
    )
