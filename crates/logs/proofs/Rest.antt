-- The words behind the head pass questions 4 to 10 exactly when they are formed as `RestFormed` says: each direction by induction on
-- the words.
use mathlib.Core.Path.{◌≡◌, refl, ◌∙◌, ap, sym, subst}
use mathlib.Core.Logic.{◌⊎◌, inl, inr, ⊎_elim}
use mathlib.Core.Bool.{Bool, true, false, true≢false, ◌||◌, or-true, or-false}
use mathlib.Core.List.Memᴰ.{cases_cons as mem-cases}
use mathlib.Core.List.Memᴰ.{not-nil}
use mathlib.Core.List.{List, [], ◌∷◌, Memᴰ as Mem}
use Prim.Native.Nat.{ℕ, zero, suc, ◌+◌, ◌-◌, ◌<◌, ◌≤◌}
use native.Mathlib.Omega.{arith}
use native.Mathlib.Nat.{add-zero, suc-add}
use lib.ListN.{length, get_or, drop}
use Rattle.logs.specs.Words.{kind, number, to_episode}
use Rattle.logs.specs.Content.{Heard}
use Rattle.logs.specs.Answer.{Answer, given, refused, and_then}
use Rattle.logs.specs.Log.{is_from, is_to, group_word, end_word, counted, onwards, heard_from, marks_of}
use Rattle.logs.specs.declared.Ceilings.{Ceilings}
use Rattle.logs.proofs.Asked.{group_taken, end_taken, from_given, to_given, end_given, FromTaken, ToTaken}
use Rattle.logs.proofs.Marks.{marks_nil, marks_other}
use Rattle.logs.proofs.Links.{heard_from_lem, heard_to, heard_end, heard_nil, to_words, count_from, count_to, count_end}

-- a word between head and end: a from word with a to word behind it that is not the last, or a to word
abbrev pub Grouped : ℕ → ℕ → List ℕ → Type 0
Grouped n w rest = FromTaken n w rest ⊎ ((kind w ≡ 3) × (to_episode w < n))

-- the words `s` of a log from some place behind the head on: before them stood a from word if `from` says so, and `t` to words; the
-- whole log has `t'`
pub record RestFormed (n : ℕ) (s : List ℕ) (from : Bool) (t t' : ℕ) : Type 0 where
  pub grouped : (i : ℕ) → i + 1 < length s → Grouped n (get_or s i 0) (drop (i + 1) s)
  pub starts : from ≡ false → 1 < length s → kind (get_or s 0 0) ≡ 2
  pub end_kind : kind (get_or s (length s - 1) 0) ≡ 15
  pub end_number : number (get_or s (length s - 1) 0) ≡ t'
  pub count : t + to_words s ≡ t'

formed_end : (n w : ℕ) (from : Bool) (t : ℕ) → kind w ≡ 15 → number w ≡ t → RestFormed n (w ∷ []) from t t
unfolding to_words
formed_end n w from t k x =
    record {
      grouped = λ i h. absurd (omega arith);
      starts = λ f h. absurd (omega arith);
      end_kind = k;
      end_number = x;
      count = rw (count_end w [] k, add-zero);
    }

pub last_behind : (w x : ℕ) (rest : List ℕ) → get_or (w ∷ x ∷ rest) (length (w ∷ x ∷ rest) - 1) 0 ≡ get_or (x ∷ rest) (length (x ∷ rest) - 1) 0
last_behind w x rest =
    let e : suc (suc (length rest)) - 1 ≡ suc (suc (length rest) - 1) = omega arith in
    rw e

module _ (n w x : ℕ) (rest : List ℕ) (from : Bool) (t t' : ℕ) where
  -- one word more in front, and one less
  in_front : (t₁ : ℕ) → Grouped n w (x ∷ rest) → (from ≡ false → kind w ≡ 2) → t + to_words (w ∷ x ∷ rest) ≡ t₁ + to_words (x ∷ rest)
      → RestFormed n (x ∷ rest) true t₁ t' → RestFormed n (w ∷ x ∷ rest) from t t'
  in_front t₁ first starts same r =
      record {
        grouped = grouped;
        starts = λ f h. starts f;
        end_kind = rw (last_behind w x rest) r.end_kind;
        end_number = rw (last_behind w x rest) r.end_number;
        count = same ∙ r.count;
      }
    where
      grouped : (i : ℕ) → i + 1 < length (w ∷ x ∷ rest) → Grouped n (get_or (w ∷ x ∷ rest) i 0) (drop (i + 1) (w ∷ x ∷ rest))
      grouped zero h = first
      grouped (suc i) h = rw suc-add (r.grouped i (omega arith))

  behind_word : (t₁ : ℕ) → t + to_words (w ∷ x ∷ rest) ≡ t₁ + to_words (x ∷ rest) → RestFormed n (w ∷ x ∷ rest) from t t' → RestFormed n (x ∷ rest) true t₁ t'
  behind_word t₁ same r =
      record {
        grouped = λ i h. rw suc-add at (r.grouped (suc i) (omega arith));
        starts = λ f h. absurd (true≢false f);
        end_kind = rw (last_behind w x rest) at r.end_kind;
        end_number = rw (last_behind w x rest) at r.end_number;
        count = sym same ∙ r.count;
      }

  behind_from : kind w ≡ 2 → RestFormed n (w ∷ x ∷ rest) from t t' → RestFormed n (x ∷ rest) true t t'
  behind_from k = behind_word t (rw (count_from w (x ∷ rest) k))

  behind_to : kind w ≡ 3 → RestFormed n (w ∷ x ∷ rest) from t t' → RestFormed n (x ∷ rest) true (t + 1) t'
  behind_to k = behind_word (t + 1) (rw (count_to w (x ∷ rest) k) (omega arith))

-- an answer behind another: both are given
pub both_given : {A B : Type 0} (x : Answer A) (y : Answer B) (b : B) → and_then x y ≡ given b → ((a : A) × (x ≡ given a)) × (y ≡ given b)
both_given (given a) y b e = ((a, refl), e)
both_given (refused k p) y b e = let none : ◌≡◌ {A = ℕ} 0 1 = cc in absurd (omega arith)

pub rest_formed : (m : Ceilings) (n p w : ℕ) (rest : List ℕ) (from : Bool) (t n' t' : ℕ)
    → onwards m n p w rest from t ≡ given (n', t') → t ≤ m.words → (n' ≡ n) × RestFormed n (w ∷ rest) from t t' × (t' ≤ m.words)
unfolding onwards
rest_formed m n p w [] from t n' t' e room =
    let both = both_given (end_word p w t) (given (n, t)) (n', t') e in
    let end = end_taken p w t both.0.0 both.0.1 in
    let same : ◌≡◌ {A = ℕ × ℕ} (n, t) (n', t') = cc in
    let count : t ≡ t' = ap (λ (v : ℕ × ℕ). v.1) same in (
      sym (ap (λ (v : ℕ × ℕ). v.0) same),
      subst (λ (k : ℕ). RestFormed n (w ∷ []) from t k) count (formed_end n w from t end.0 end.1),
      omega arith,
    )
rest_formed m n p w (x ∷ rest) from t n' t' e room =
    let both = both_given (group_word m n p w (x ∷ rest) from t) (onwards m n (p + 1) x rest (from || is_from w) (counted (is_to w) t)) (n', t') e in
    ⊎_elim
    (λ k.
    let more = rest_formed m n (p + 1) x rest true t n' t' (rw (k.kind_from, or-true) at both.1) room in
    (more.0, in_front n w x rest from t t' t (inl k) (λ f. k.kind_from) (rw (count_from w (x ∷ rest) k.kind_from)) more.1, more.2))
    (λ k.
    let more = rest_formed m n (p + 1) x rest true (t + 1) n' t' (rw (k.kind_to, or-false, k.from_before) at both.1) (omega (arith, k.room)) in (
      more.0,
      in_front n w x rest from t t' (t + 1) (inr (k.kind_to, k.below)) (λ f. absurd (true≢false (sym k.from_before ∙ f)))
          (rw (count_to w (x ∷ rest) k.kind_to) (omega arith)) more.1,
      more.2,
    ))
    (group_taken m n p w (x ∷ rest) from t both.0.0 both.0.1)

-- a to word stands first only where a from word came before
from_before : (n w x : ℕ) (rest : List ℕ) (from : Bool) (t t' : ℕ) → RestFormed n (w ∷ x ∷ rest) from t t' → kind w ≡ 3 → from ≡ true
from_before n w x rest true t t' r k = refl
from_before n w x rest false t t' r k = let two : kind w ≡ 2 = r.starts refl (omega arith) in absurd (omega arith)

pub rest_passes : (m : Ceilings) (n p w : ℕ) (rest : List ℕ) (from : Bool) (t t' : ℕ)
    → RestFormed n (w ∷ rest) from t t' → t' ≤ m.words → onwards m n p w rest from t ≡ given (n, t')
unfolding onwards end_word to_words
rest_passes m n p w [] from t t' r room =
    let count : t ≡ t' = omega (arith, r.count, count_end w [] r.end_kind) in
    rw (end_given p w t r.end_kind (r.end_number ∙ sym count)) (ap (λ (k : ℕ). given (n, k)) count)
rest_passes m n p w (x ∷ rest) from t t' r room =
    ⊎_elim
    (λ k.
    let more = rest_passes m n (p + 1) x rest true t t' (behind_from n w x rest from t t' k.kind_from r) room in
    rw (from_given m n p w (x ∷ rest) from t k, k.kind_from, or-true) more)
    (λ k.
    let more = rest_passes m n (p + 1) x rest true (t + 1) t' (behind_to n w x rest from t t' k.0 r) room in
    let before = from_before n w x rest from t t' r k.0 in
    let taken : ToTaken m n w from t = record { kind_to = k.0; from_before = before; below = k.1; room = omega (arith, r.count, count_to w (x ∷ rest) k.0) } in
    rw (to_given m n p w (x ∷ rest) from t taken, before, k.0) more)
    (r.grouped 0 (omega arith))

-- none of the words is a voices word
pub rest_marks : (n : ℕ) (s : List ℕ) (from : Bool) (t t' : ℕ) → RestFormed n s from t t' → marks_of s ≡ []
rest_marks n [] from t t' r = marks_nil
rest_marks n (w ∷ []) from t t' r =
    let end : kind w ≡ 15 = r.end_kind in
    marks_other w [] (λ e. omega arith) ∙ marks_nil
rest_marks n (w ∷ x ∷ rest) from t t' r =
    ⊎_elim
    (λ k.
    let two = k.kind_from in
    marks_other w (x ∷ rest) (λ e. omega arith) ∙ rest_marks n (x ∷ rest) true t t' (behind_from n w x rest from t t' two r))
    (λ k.
    let three = k.0 in
    marks_other w (x ∷ rest) (λ e. omega arith) ∙ rest_marks n (x ∷ rest) true (t + 1) t' (behind_to n w x rest from t t' three r))
    (r.grouped 0 (omega arith))

pub ends_below : (n : ℕ) (s : List ℕ) (from : Bool) (t t' a : ℕ) → RestFormed n s from t t' → (from ≡ true → a < n)
    → (h : Heard) → Mem h (heard_from a s) → (h.from < n) × (h.to < n)
ends_below n [] from t t' a r k h i = absurd (not-nil (rw (heard_nil a) at i))
ends_below n (w ∷ []) from t t' a r k h i = absurd (not-nil (rw (heard_end a w [] r.end_kind, heard_nil) at i))
ends_below n (w ∷ x ∷ rest) from t t' a r k h i =
    ⊎_elim
    (λ f.
    ends_below n (x ∷ rest) true t t' (number w) (behind_from n w x rest from t t' f.kind_from r) (λ e. f.below) h
    (rw (heard_from_lem a w (x ∷ rest) f.kind_from) at i))
    (λ f.
    let start : a < n = k (from_before n w x rest from t t' r f.0) in
    ⊎_elim
    (λ e. (omega (arith, ap (λ (v : Heard). v.from) e), omega (arith, ap (λ (v : Heard). v.to) e, f.1)))
    (ends_below n (x ∷ rest) true (t + 1) t' a (behind_to n w x rest from t t' f.0 r) (λ e. start) h)
    (mem-cases (rw (heard_to a w (x ∷ rest) f.0) at i)))
    (r.grouped 0 (omega arith))
