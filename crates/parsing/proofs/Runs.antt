-- A run of words of one kind: the numbers that it holds.
use mathlib.Core.Path.{◌≡◌, refl, sym, ap, ap₂, ◌∙◌}
use mathlib.Core.Bool.{Bool}
use mathlib.Core.List.Memᴰ.{head as here}
use mathlib.Core.List.Memᴰ.{tail as there}
use mathlib.Core.List.{List, [], ◌∷◌, ◌++◌, map}
use Prim.Native.Nat.{ℕ, zero, suc, ◌+◌, ◌-◌, ◌≤◌, ◌<◌}
use native.Mathlib.Omega.{arith}
use lib.ListN.{length, get_or, take, drop, length-take, length-drop}
use lib.Seq.{drop-cons, get_or-take, get_or-drop}
use Rattle.order.specs.Order.{All}
use Rattle.order.proofs.Lists.{all_nil, all_cons}
use Rattle.logs.specs.Words.{kind, number, word, Small}
use Rattle.logs.proofs.Words.{kind_word, number_lt, word_kind_number}
use Rattle.parsing.specs.Parsing.{OfKind, KindTest}

-- Words of one kind are the words of their numbers.
pub run_words : (k c : ℕ) (ws : List ℕ) (from : ℕ) → from + c ≤ length ws → OfKind ws from (from + c) k
    → (t : List ℕ) × (length t ≡ c) × All Small t × (drop from ws ≡ map (word k) t ++ drop (from + c) ws)
run_words k zero ws from h run =
    let same : from ≡ from + 0 = omega arith in
    ([], refl, all_nil _, ap (λ (x : ℕ). drop x ws) same)
run_words k (suc c) ws from h run =
    let w : ℕ = get_or ws from 0 in
    let (t, size, small, rest) = run_words k c ws (suc from) (omega arith) (λ j le lt. run j (omega arith) (omega arith)) in
    let first : w ≡ word k (number w) =
    sym (word_kind_number w) ∙ ap (λ (x : ℕ). word x (number w)) (run from (omega arith) (omega arith)) in
    let same : suc from + c ≡ from + suc c = omega arith in (
      number w ∷ t,
      omega arith,
      all_cons (number_lt w) small,
      drop-cons ws from 0 (omega arith)
          ∙ ap₂ (λ (x : ℕ) (l : List ℕ). x ∷ l) first (rest ∙ ap (λ (x : ℕ). map (word k) t ++ drop x ws) same),
    )

-- The words of numbers are of one kind.
run_front : (k : ℕ) (t rest : List ℕ) → All Small t → (j : ℕ) → j < length t → kind (get_or (map (word k) t ++ rest) j 0) ≡ k
run_front k [] rest small j h = absurd (omega arith)
run_front k (x ∷ t) rest small zero h = kind_word k x (small x (here refl))
run_front k (x ∷ t) rest small (suc j) h = run_front k t rest (λ y m. small y (there m)) j (omega arith)

pub run_kinds : (k : ℕ) (ws : List ℕ) (from : ℕ) (t rest : List ℕ) → All Small t → drop from ws ≡ map (word k) t ++ rest
    → OfKind ws from (from + length t) k
run_kinds k ws from t rest small e j le lt =
    let at : get_or ws (from + (j - from)) 0 ≡ get_or (map (word k) t ++ rest) (j - from) 0 =
    sym (get_or-drop from ws (j - from) 0) ∙ ap (λ (l : List ℕ). get_or l (j - from) 0) e in
    let same : from + (j - from) ≡ j = omega arith in
    ap (λ (x : ℕ). kind (get_or ws x 0)) (sym same) ∙ ap kind at ∙ run_front k t rest small (j - from) (omega arith)

-- The test of a part's words is that of the words at their places.
pub part_test : (ws part : List ℕ) (from end k : ℕ) (r : Bool) → part ≡ take (end - from) (drop from ws) → from ≤ end → end ≤ length ws
    → KindTest part 0 (length part) k r → KindTest ws from end k r
part_test ws part from end k r is rises inside test =
    record {
      all = λ e j le lt.
          let same : from + (j - from) ≡ j = omega arith in
          ap (λ (x : ℕ). kind (get_or ws x 0)) (sym same) ∙ ap kind (sym (at (j - from) (omega arith)))
          ∙ test.all e (j - from) (omega arith) (omega (arith, long));
      not_all = λ e all.
          test.not_all e
          (λ j le lt. let within : j < end - from = omega (arith, long) in ap kind (at j within) ∙ all (from + j) (omega arith) (omega arith));
    }
  where
    long : length part ≡ end - from
    long = rw is (simp (length-take, length-drop) (omega arith))

    at : (j : ℕ) → j < end - from → get_or part j 0 ≡ get_or ws (from + j) 0
    at j h = rw (is, get_or-take, get_or-drop)
