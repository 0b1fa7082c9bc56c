-- The questions word by word: what an answer says of the word, and what it takes to be given one.
use mathlib.Core.Path.{◌≡◌, refl, ◌∙◌, ap, sym}
use mathlib.Core.Logic.{◌⊎◌, inl, inr, ◌↔◌, ◌≢◌}
use mathlib.Core.Bool.{Bool, true, false, ◌&&◌, true≢false}
use mathlib.Core.List.{List}
use Prim.Native.Nat.{ℕ, ◌+◌, ◌<◌, ◌≤◌}
use native.Mathlib.Omega.{arith}
use native.Mathlib.Nat.{add-zero}
use native.Mathlib.Numerals.{add-one}
use lib.Dec.{ltb, leb, eqb}
use lib.ListN.{length, get_or, drop, length-drop}
use lib.Seq.{get_or-drop}
use borrow.Author.Tests.{lt-ltb, leb-true, ltb-true, eqb-true, eqb-false, eq-eqb, ne_eqb}
use Rattle.logs.specs.Words.{kind, number, head_episodes, head_version, to_episode, to_pause, kind_code}
use Rattle.logs.specs.Answer.{Answer, given, refused, question, and_then}
use Rattle.logs.specs.Log.{to_before_last, head_word, group_word, end_word}
use Rattle.logs.specs.declared.Ceilings.{Ceilings}
use Rattle.logs.specs.declared.Kind.{Kind}
use Rattle.logs.specs.declared.Kind.TheVariants.{From, To}
use Rattle.logs.proofs.Words.{figure_from, figure_to, minutes_from, minutes_to}

-- an answer is not both given and refused
pub not_both : {A : Type 0} (x : Answer A) (a : A) (q p : ℕ) → x ≡ given a → x ≡ refused q p → ⊥
not_both x a q p e f = let none : ◌≡◌ {A = ℕ} 0 1 = cc in omega arith

-- what is given behind an answer is given exactly where that is, and refused as that is
module _ {A B : Type 0} where
  pub then_given : (x : Answer A) (b c : B) → and_then x (given b) ≡ given c → ((a : A) × (x ≡ given a)) × (b ≡ c)
  then_given (given a) b c e = ((a, refl), cc e)
  then_given (refused q p) b c e = absurd (not_both (given c) c q p refl (sym e))

  pub given_then : (x : Answer A) (a : A) (b c : B) → x ≡ given a → b ≡ c → and_then x (given b) ≡ given c
  given_then x a b c e f = rw (e, f)

  pub then_refused : (x : Answer A) (b : B) (q p : ℕ) → (and_then x (given b) ≡ refused q p) ↔ (x ≡ refused q p)
  then_refused (given a) b q p = (λ e. absurd (not_both (given b) b q p refl e), λ e. absurd (not_both (given a) a q p refl e))
  then_refused (refused j x) b q p = (λ e. cc e, λ e. cc e)

-- what is asked behind a word does not depend on the figures that the word gives
module _ {A B C : Type 0} (x : A) (y : B) (next : Answer C) (p : ℕ) where
  pub same_two : (k j q : ℕ) (a b : Bool)
      → and_then (question k q a (question j q b (given x))) next ≡ and_then (question k q a (question j q b (given y))) next
  same_two k j q true true = refl
  same_two k j q true false = refl
  same_two k j q false b = refl

  pub same_five : (a b c d e : Bool)
      → and_then (question 4 p a (question 5 p b (question 6 p c (question 7 p d (question 8 p e (given x)))))) next
      ≡ and_then (question 4 p a (question 5 p b (question 6 p c (question 7 p d (question 8 p e (given y)))))) next
  same_five true true true d e = same_two 7 8 p d e
  same_five true true false d e = refl
  same_five true false c d e = refl
  same_five false b c d e = refl

-- two tests whose facts follow from each other
same_test : (a b c d : ℕ) → (a < b → c < d) → (c < d → a < b) → ltb a b ≡ ltb c d
same_test a b c d there back = by_value (ltb a b) (ltb c d) refl refl
  where
    by_value : (x y : Bool) → ltb a b ≡ x → ltb c d ≡ y → ltb a b ≡ ltb c d
    by_value true y e f = e ∙ sym (lt-ltb c d (there (ltb-true a b e)))
    by_value false true e f = lt-ltb a b (back (ltb-true c d f)) ∙ sym f
    by_value false false e f = e ∙ sym f

-- question 6 asks of the words behind a word what it could ask of the log
pub behind : (l : List ℕ) (p : ℕ) → to_before_last (drop p l) 0 ≡ to_before_last l p
behind l p =
    rw (get_or-drop, add-zero)
    (ap (λ (b : Bool). b && eqb (kind (get_or l p 0)) 3)
    (same_test 1 (length (drop p l)) (p + 1) (length l) (λ h. omega (arith, length-drop p l)) (λ h. omega (arith, length-drop p l))))

-- what `to_before_last` tests
pub to_there : (l : List ℕ) (p : ℕ) → to_before_last l p ≡ true → (p + 1 < length l) × (kind (get_or l p 0) ≡ 3)
to_there l p e = by_value (ltb (p + 1) (length l)) refl
  where
    by_value : (b : Bool) → ltb (p + 1) (length l) ≡ b → (p + 1 < length l) × (kind (get_or l p 0) ≡ 3)
    by_value true f = (ltb-true (p + 1) (length l) f, eqb-true (kind (get_or l p 0)) 3 (rw f at e))
    by_value false f = absurd (true≢false (sym (rw f at e)))

pub there_to : (l : List ℕ) (p : ℕ) → p + 1 < length l → kind (get_or l p 0) ≡ 3 → to_before_last l p ≡ true
there_to l p h e = rw (lt-ltb _ _ h, e)

-- a question that is followed by an answer was answered yes
pub asked : {A : Type 0} (k p : ℕ) (b : Bool) (next : Answer A) (a : A) → question k p b next ≡ given a → (b ≡ true) × (next ≡ given a)
asked k p true next a e = (refl, e)
asked k p false next a e = let none : ◌≡◌ {A = ℕ} 0 1 = cc in absurd (omega arith)

module _ (m : Ceilings) (n p w : ℕ) (rest : List ℕ) (from : Bool) (t : ℕ) where
  pub group_from : kind w ≡ 2
      → group_word m n p w rest from t ≡ question 6 p (to_before_last rest 0) (question 7 p (ltb (number w) n) (given (2, number w, 0)))
  unfolding group_word
  group_from e = rw (figure_from w e, minutes_from w e) (rw e)

  pub group_to : kind w ≡ 3
      → group_word m n p w rest from t
      ≡ question 5 p from (question 7 p (ltb (to_episode w) n) (question 8 p (ltb t m.words) (given (3, to_episode w, to_pause w))))
  unfolding group_word
  group_to e = rw (figure_to w e, minutes_to w e) (rw (e, add-one))

  pub group_other : (kind w ≡ 2 → ⊥) → (kind w ≡ 3 → ⊥) → group_word m n p w rest from t ≡ refused 4 p
  unfolding group_word
  group_other no-from no_to = rw (ne_eqb _ _ no-from, ne_eqb _ _ no_to)

  pub group_kindless : ((k : Kind) → kind_code k ≢ kind w) → group_word m n p w rest from t ≡ refused 4 p
  group_kindless none = group_other (λ e. none From (sym e)) (λ e. none To (sym e))

-- of a from word at a place of the log
pub from_asked : (m : Ceilings) (l : List ℕ) (n p : ℕ) (from : Bool) (t : ℕ) → kind (get_or l p 0) ≡ 2
    → group_word m n p (get_or l p 0) (drop (p + 1) l) from t
    ≡ question 6 p (to_before_last l (p + 1)) (question 7 p (ltb (number (get_or l p 0)) n) (given (2, number (get_or l p 0), 0)))
from_asked m l n p from t k = group_from m n p (get_or l p 0) (drop (p + 1) l) from t k ∙ rw behind

-- what the questions say of a from word that is taken, and of a to word
pub record FromTaken (n w : ℕ) (rest : List ℕ) : Type 0 where
  pub kind_from : kind w ≡ 2
  pub to_follows : to_before_last rest 0 ≡ true
  pub below : number w < n

pub record ToTaken (m : Ceilings) (n w : ℕ) (from : Bool) (t : ℕ) : Type 0 where
  pub kind_to : kind w ≡ 3
  pub from_before : from ≡ true
  pub below : to_episode w < n
  pub room : t < m.words

pub group_taken : (m : Ceilings) (n p w : ℕ) (rest : List ℕ) (from : Bool) (t : ℕ) (a : ℕ × ℕ × ℕ)
    → group_word m n p w rest from t ≡ given a → FromTaken n w rest ⊎ ToTaken m n w from t
group_taken m n p w rest from t a e = by_kind (eqb (kind w) 2) (eqb (kind w) 3) refl refl
  where
    by_kind : (x y : Bool) → eqb (kind w) 2 ≡ x → eqb (kind w) 3 ≡ y → FromTaken n w rest ⊎ ToTaken m n w from t
    by_kind true y f g =
        let kind_from = eqb-true (kind w) 2 f in
        let six = asked 6 p (to_before_last rest 0) (question 7 p (ltb (number w) n) (given (2, number w, 0))) a (sym (group_from m n p w rest from t kind_from) ∙ e) in
        let seven = asked 7 p (ltb (number w) n) (given (2, number w, 0)) a six.1 in
        inl (record { kind_from = kind_from; to_follows = six.0; below = ltb-true (number w) n seven.0 })
    by_kind false true f g =
        let kind_to = eqb-true (kind w) 3 g in
        let next : Answer (ℕ × ℕ × ℕ) = question 8 p (ltb t m.words) (given (3, to_episode w, to_pause w)) in
        let five = asked 5 p from (question 7 p (ltb (to_episode w) n) next) a (sym (group_to m n p w rest from t kind_to) ∙ e) in
        let seven = asked 7 p (ltb (to_episode w) n) next a five.1 in
        let eight = asked 8 p (ltb t m.words) (given (3, to_episode w, to_pause w)) a seven.1 in
        inr (record { kind_to = kind_to; from_before = five.0; below = ltb-true (to_episode w) n seven.0; room = ltb-true t m.words eight.0 })
    by_kind false false f g =
        let four = group_other m n p w rest from t (eqb-false (kind w) 2 f) (eqb-false (kind w) 3 g) in
        let none : ◌≡◌ {A = ℕ} 0 1 = cc in
        absurd (omega arith)

-- what the questions say of a head that is taken
pub head_passed : (m : Ceilings) (w : ℕ) (a : ℕ × ℕ × ℕ) → head_word m w ≡ given a
    → (kind w ≡ 1) × (head_version w ≤ 1) × (head_episodes w ≤ m.episodes) × (◌≡◌ {A = ℕ × ℕ × ℕ} (kind w, head_episodes w, head_version w) a)
head_passed m w a e =
    let taken : Answer (ℕ × ℕ × ℕ) = given (kind w, head_episodes w, head_version w) in
    let few : Answer (ℕ × ℕ × ℕ) = question 3 0 (leb (head_episodes w) m.episodes) taken in
    let two = asked 2 0 (eqb (kind w) 1) (question 18 0 (leb (head_version w) 1) few) a e in
    let eighteen = asked 18 0 (leb (head_version w) 1) few a two.1 in
    let three = asked 3 0 (leb (head_episodes w) m.episodes) taken a eighteen.1 in (
      eqb-true (kind w) 1 two.0,
      leb-true (head_version w) 1 eighteen.0,
      leb-true (head_episodes w) m.episodes three.0,
      cc three.1,
    )

-- and of a last word that is taken
pub end_taken : (p w t : ℕ) (a : ℕ × ℕ × ℕ) → end_word p w t ≡ given a → (kind w ≡ 15) × (number w ≡ t)
unfolding end_word
end_taken p w t a e =
    let nine = asked 9 p (eqb (kind w) 15) (question 10 p (eqb (number w) t) (given (kind w, number w, 0))) a e in
    let ten = asked 10 p (eqb (number w) t) (given (kind w, number w, 0)) a nine.1 in
    (eqb-true (kind w) 15 nine.0, eqb-true (number w) t ten.0)

-- and the other way round
pub from_given : (m : Ceilings) (n p w : ℕ) (rest : List ℕ) (from : Bool) (t : ℕ) → FromTaken n w rest
    → group_word m n p w rest from t ≡ given (2, number w, 0)
from_given m n p w rest from t k = group_from m n p w rest from t k.kind_from ∙ rw (k.to_follows, lt-ltb (number w) n k.below)

pub to_given : (m : Ceilings) (n p w : ℕ) (rest : List ℕ) (from : Bool) (t : ℕ) → ToTaken m n w from t
    → group_word m n p w rest from t ≡ given (3, to_episode w, to_pause w)
to_given m n p w rest from t k =
    group_to m n p w rest from t k.kind_to ∙ rw (k.from_before, lt-ltb (to_episode w) n k.below, lt-ltb t m.words k.room)

pub end_given : (p w t : ℕ) → kind w ≡ 15 → number w ≡ t → end_word p w t ≡ given (kind w, number w, 0)
unfolding end_word
end_given p w t k x = rw (eq-eqb (kind w) 15 k, eq-eqb (number w) t x)
