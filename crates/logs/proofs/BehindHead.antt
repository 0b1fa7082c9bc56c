-- The words behind the head pass exactly when they are formed as `BehindHead` says: voices words whose marks are taken, and behind them words that are
-- formed as `RestFormed` says. Of the first direction by induction on the words.
use mathlib.Core.Path.{◌≡◌, refl, ◌∙◌, ap, sym}
use mathlib.Core.Logic.{◌≢◌}
use mathlib.Core.Bool.{false}
use mathlib.Core.List.Memᴰ.{cases_cons as mem-cases, not-nil}
use mathlib.Core.Logic.{⊎_elim}
use mathlib.Core.List.{List, [], ◌∷◌, ◌++◌, append-nil, append_assoc}
use Prim.Native.Nat.{ℕ, zero, suc, ◌+◌, ◌<◌, ◌≤◌}
use native.Mathlib.Decide.{ℕ_discrete}
use native.Mathlib.Omega.{arith}
use Rattle.std.proofs.lemmas.List.{take-append-drop}
use lib.ListN.{length, get_or, take, drop}
use lib.Seq.{length-take-le}
use borrow.Author.Tests.{ne_eqb}
use Rattle.order.specs.Order.{All}
use Rattle.logs.specs.Words.{kind}
use Rattle.logs.specs.Answer.{given}
use Rattle.logs.specs.Log.{voices_asked, voices_onwards, marks_of, heard_from}
use Rattle.logs.specs.declared.Ceilings.{Ceilings}
use Rattle.logs.proofs.Links.{heard_voices, to_words, count_voices}
use Rattle.logs.proofs.Places.{drop_at}
use Rattle.logs.proofs.Marks.{mark_of, marks_nil, marks_voices, marks_append, marks_all}
use Rattle.logs.proofs.Rest.{both_given, RestFormed, rest_formed, rest_passes, rest_marks}
use Rattle.logs.proofs.Voices.{MarksTaken, voices_taken, marks_more, voices_passed}

-- the words `s` behind the head of a log with `n` episodes and `t` to words: `c` voices words, before which voices words have given the marks `before`,
-- and then the groups and the end
pub record BehindHead (n : ℕ) (s : List ℕ) (before : List (ℕ × ℕ)) (c t : ℕ) : Type 0 where
  pub within : c < length s
  pub kinds : (i : ℕ) → i < c → kind (get_or s i 0) ≡ 9
  pub marks : MarksTaken n (before ++ marks_of (take c s))
  pub words : RestFormed n (drop c s) false 0 t

-- words of which none is a voices word
no_voices : (n : ℕ) (s : List ℕ) (before : List (ℕ × ℕ)) (t : ℕ) → 0 < length s → MarksTaken n before → RestFormed n s false 0 t
    → BehindHead n s before 0 t
no_voices n s before t long r f =
    record { within = long; kinds = λ i h. absurd (omega arith); marks = rw (marks_nil, append-nil) r; words = f }

-- one voices word more in front
voices_front : (n w : ℕ) (s : List ℕ) (before : List (ℕ × ℕ)) (c t : ℕ) → kind w ≡ 9 → BehindHead n s (before ++ mark_of w ∷ []) c t
    → BehindHead n (w ∷ s) before (suc c) t
voices_front n w s before c t k r =
    record {
      within = omega (arith, r.within);
      kinds = kinds;
      marks = rw (marks_voices w (take c s) k) (rw (append_assoc before (mark_of w ∷ []) (marks_of (take c s))) at r.marks);
      words = r.words;
    }
  where
    kinds : (i : ℕ) → i < suc c → kind (get_or (w ∷ s) i 0) ≡ 9
    kinds zero h = k
    kinds (suc i) h = r.kinds i (omega arith)

pub behind_head : (m : Ceilings) (n p w : ℕ) (rest : List ℕ) (before : List (ℕ × ℕ)) (n' t' : ℕ)
    → voices_onwards m n p w rest before ≡ given (n', t') → MarksTaken n before
    → (n' ≡ n) × ((c : ℕ) × BehindHead n (w ∷ rest) before c t') × (t' ≤ m.words)
unfolding voices_onwards
behind_head m n p w [] before n' t' e r =
    let formed = rest_formed m n p w [] false 0 n' t' e (omega arith) in
    (formed.0, (0, no_voices n (w ∷ []) before t' (omega arith) r formed.1), formed.2)
behind_head m n p w (x ∷ rest) before n' t' e r =
    by_kind (ℕ_discrete (kind w) 9) (λ f k. behind_head m n (p + 1) x rest (before ++ mark_of w ∷ []) n' t' f k)
  where
    by_kind : Dec (kind w ≡ 9)
        → (voices_onwards m n (p + 1) x rest (before ++ mark_of w ∷ []) ≡ given (n', t') → MarksTaken n (before ++ mark_of w ∷ [])
        → (n' ≡ n) × ((c : ℕ) × BehindHead n (x ∷ rest) (before ++ mark_of w ∷ []) c t') × (t' ≤ m.words))
        → (n' ≡ n) × ((c : ℕ) × BehindHead n (w ∷ x ∷ rest) before c t') × (t' ≤ m.words)
    by_kind (yes k) more =
        let next = voices_onwards m n (p + 1) x rest (before ++ mark_of w ∷ []) in
        let both = both_given (voices_asked n p w before) next (n', t') (rw (k, voices_onwards) at e) in
        let taken = voices_taken n p w before both.0.0 both.0.1 in
        let (same, (c, formed), few) = more both.1 (marks_more n w before r taken) in
        (same, (suc c, voices_front n w (x ∷ rest) before c t' k formed), few)
    by_kind (no ne) more =
        let formed = rest_formed m n p w (x ∷ rest) false 0 n' t' (rw (ne_eqb (kind w) 9 ne, voices_onwards) at e) (omega arith) in
        (formed.0, (0, no_voices n (w ∷ x ∷ rest) before t' (omega arith) r formed.1), formed.2)

-- ---- what the first words give

-- where the first `c` words are voices words, what passes over one of these passes over all
pub behind_same : {B : Type 0} (f : List ℕ → B) → ((w : ℕ) (rest : List ℕ) → kind w ≡ 9 → f (w ∷ rest) ≡ f rest)
    → (c : ℕ) (s : List ℕ) → ((i : ℕ) → i < c → kind (get_or s i 0) ≡ 9) → c ≤ length s → f s ≡ f (drop c s)
behind_same f over zero s k h = refl
behind_same f over (suc c) [] k h = absurd (omega arith)
behind_same f over (suc c) (w ∷ s) k h = over w s (k 0 (omega arith)) ∙ behind_same f over c s (λ i g. k (suc i) (omega arith)) (omega arith)

-- they give no link
module _ (s : List ℕ) (c : ℕ) (within : c < length s) (kinds : (i : ℕ) → i < c → kind (get_or s i 0) ≡ 9) where
  pub words_behind : to_words s ≡ to_words (drop c s)
  words_behind = behind_same to_words count_voices c s kinds (omega arith)

  pub heard_behind : (a : ℕ) → heard_from a s ≡ heard_from a (drop c s)
  heard_behind a = behind_same (heard_from a) (heard_voices a) c s kinds (omega arith)

-- all of the first `c` words are voices words
pub all_voices : (c : ℕ) (s : List ℕ) → ((i : ℕ) → i < c → kind (get_or s i 0) ≡ 9) → c ≤ length s → All (λ w. kind w ≡ 9) (take c s)
all_voices zero s k h x m = absurd (not-nil m)
all_voices (suc c) [] k h x m = absurd (omega arith)
all_voices (suc c) (w ∷ s) k h x m =
    ⊎_elim (λ e. ap kind e ∙ k 0 (omega arith)) (all_voices c s (λ i g. k (suc i) (omega arith)) (omega arith) x) (mem-cases m)

module _ (n : ℕ) (s : List ℕ) (c t : ℕ) (within : c < length s) (kinds : (i : ℕ) → i < c → kind (get_or s i 0) ≡ 9) (words : RestFormed n (drop c s) false 0 t) where
  -- the others give no mark
  pub marks_front : marks_of s ≡ marks_of (take c s)
  marks_front =
      ap marks_of (sym (take-append-drop c s)) ∙ marks_append (take c s) (drop c s)
      ∙ rw (rest_marks n (drop c s) false 0 t words, append-nil)

  pub marks_count : length (marks_of s) ≡ c
  marks_count = ap length marks_front ∙ marks_all (take c s) (all_voices c s kinds (omega arith)) ∙ length-take-le c s (omega arith)

-- ---- the other direction

pub behind_passes : (m : Ceilings) (n p : ℕ) (s : List ℕ) (c t : ℕ) → BehindHead n s [] c t → t ≤ m.words
    → voices_onwards m n p (get_or s 0 0) (drop 1 s) [] ≡ given (n, t)
behind_passes m n p s c t r room =
    let within = r.within in
    let x : ℕ = get_or s c 0 in
    let rest : List ℕ = drop (c + 1) s in
    let parts : take c s ++ x ∷ rest ≡ s = ap (λ (ys : List ℕ). take c s ++ ys) (sym (drop_at s c within)) ∙ take-append-drop c s in
    let formed : RestFormed n (x ∷ rest) false 0 t = rw (drop_at s c within) at r.words in
    let ne : 0 < length rest → kind x ≢ 9 = λ h e. let two : kind x ≡ 2 = formed.starts refl (omega arith) in absurd (omega arith) in
    let passed = voices_passed m n p (take c s) x rest [] (all_voices c s r.kinds (omega arith)) r.marks ne in
    rw parts at passed ∙ rest_passes m n (p + length (take c s)) x rest false 0 t formed room
