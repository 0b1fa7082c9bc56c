-- The links of a log's words: word by word, and of the words before a place.
use mathlib.Core.Path.{◌≡◌, refl, ◌∙◌, ap}
use mathlib.Core.Logic.{⊎_elim}
use mathlib.Core.Bool.{Bool, true, false}
use mathlib.Core.List.Memᴰ.{cases_cons as mem-cases}
use mathlib.Core.List.Memᴰ.{not-nil}
use mathlib.Core.List.{
  List,
  [],
  ◌∷◌,
  ◌++◌,
  append-nil,
  Memᴰ as Mem,
}
use Prim.Native.Nat.{ℕ, suc, ◌+◌, ◌<◌, ◌^◌}
use native.Mathlib.Omega.{arith}
use native.Mathlib.Numerals.{add-one}
use lib.ListN.{length, get_or, take}
use lib.Seq.{take-suc, drop-append-le, take-length, length-take-le}
use borrow.Author.Tests.{eqb-true}
use Rattle.logs.specs.Words.{kind, number, to_episode, to_pause}
use Rattle.logs.specs.Content.{Heard}
use Rattle.logs.specs.Log.{is_from, is_to, counted, heard_from, content_of}
use Rattle.logs.specs.Groups.{last_from, before, heard_before, nearest_from}

module _ (a w : ℕ) (rest : List ℕ) where
  pub heard_from_lem : kind w ≡ 2 → heard_from a (w ∷ rest) ≡ heard_from (number w) rest
  unfolding heard_from
  heard_from_lem k = rw (k, heard_from)

  pub heard_to : kind w ≡ 3
      → heard_from a (w ∷ rest) ≡ record { from = a; to = to_episode w; pause = to_pause w } ∷ heard_from a rest
  unfolding heard_from
  heard_to k = rw (k, heard_from) (rw k)

  pub heard_end : kind w ≡ 15 → heard_from a (w ∷ rest) ≡ heard_from a rest
  unfolding heard_from
  heard_end k = rw (k, heard_from) (rw k)

  pub heard_voices : kind w ≡ 9 → heard_from a (w ∷ rest) ≡ heard_from a rest
  unfolding heard_from
  heard_voices k = rw (k, heard_from) (rw k)

pub heard_nil : (a : ℕ) → heard_from a [] ≡ []
unfolding heard_from
heard_nil a = refl

-- how many of the words are to words
unfoldable pub to_words : List ℕ → ℕ
to_words [] = 0
to_words (w ∷ rest) = counted (is_to w) (to_words rest)

module _ (w : ℕ) (rest : List ℕ) where
  pub count_from : kind w ≡ 2 → to_words (w ∷ rest) ≡ to_words rest
  unfolding to_words
  count_from k = rw (to_words, k)

  pub count_to : kind w ≡ 3 → to_words (w ∷ rest) ≡ to_words rest + 1
  unfolding to_words
  count_to k = rw (to_words, k)

  pub count_end : kind w ≡ 15 → to_words (w ∷ rest) ≡ to_words rest
  unfolding to_words
  count_end k = rw (to_words, k)

  pub count_voices : kind w ≡ 9 → to_words (w ∷ rest) ≡ to_words rest
  unfolding to_words
  count_voices k = rw (to_words, k)

-- each to word gives one link
pub heard_count_lem : (a : ℕ) (s : List ℕ) → length (heard_from a s) ≡ to_words s
unfolding heard_from to_words
heard_count_lem a [] = refl
heard_count_lem a (w ∷ rest) = by_kind (is_from w) (is_to w) refl refl (λ b. heard_count_lem b rest)
  where
    by_kind : (x y : Bool) → is_from w ≡ x → is_to w ≡ y → ((b : ℕ) → length (heard_from b rest) ≡ to_words rest)
        → length (heard_from a (w ∷ rest)) ≡ to_words (w ∷ rest)
    by_kind true y f g more =
        let k : kind w ≡ 2 = eqb-true (kind w) 2 f in
        rw (heard_from_lem a w rest k, count_from w rest k) (more (number w))
    by_kind false true f g more = rw (f, g, heard_from, to_words, add-one) (ap suc (more a))
    by_kind false false f g more = rw (f, g, heard_from, to_words) (more a)

-- its episode and its pause fit the to word, whatever the words are
pub heard_fits : (a : ℕ) (s : List ℕ) (h : Heard) → Mem h (heard_from a s) → (h.to < 2 ^ 16) × (h.pause < 2 ^ 12)
unfolding heard_from
heard_fits a [] h m = absurd (not-nil m)
heard_fits a (w ∷ rest) h m = by_kind (is_from w) (is_to w) refl refl (λ b. heard_fits b rest h) m
  where
    by_kind : (x y : Bool) → is_from w ≡ x → is_to w ≡ y → ((b : ℕ) → Mem h (heard_from b rest) → (h.to < 2 ^ 16) × (h.pause < 2 ^ 12))
        → Mem h (heard_from a (w ∷ rest)) → (h.to < 2 ^ 16) × (h.pause < 2 ^ 12)
    by_kind true y f g more i = more (number w) (rw (heard_from_lem a w rest (eqb-true (kind w) 2 f)) at i)
    by_kind false true f g more i =
        ⊎_elim
        (λ e.
        let to : h.to ≡ to_episode w = ap (λ (x : Heard). x.to) e in
        let pause : h.pause ≡ to_pause w = ap (λ (x : Heard). x.pause) e in
        (omega arith, omega arith))
        (more a)
        (mem-cases (rw (f, g, heard_from) at i))
    by_kind false false f g more i = more a (rw (f, g, heard_from) at i)

module _ (a w : ℕ) where
  pub last_from_lem : kind w ≡ 2 → last_from a (w ∷ []) ≡ number w
  unfolding last_from
  last_from_lem k = rw (k, last_from)

  pub last_to : kind w ≡ 3 → last_from a (w ∷ []) ≡ a
  unfolding last_from
  last_to k = rw (k, last_from)

  pub last_voices : kind w ≡ 9 → last_from a (w ∷ []) ≡ a
  unfolding last_from
  last_voices k = rw (k, last_from)

pub heard_append : (a : ℕ) (xs ys : List ℕ) → heard_from a (xs ++ ys) ≡ heard_from a xs ++ heard_from (last_from a xs) ys
unfolding heard_from last_from
heard_append a [] ys = refl
heard_append a (w ∷ xs) ys = by_kind (is_from w) (is_to w) refl refl (λ b. heard_append b xs ys)
  where
    by_kind : (x y : Bool) → is_from w ≡ x → is_to w ≡ y
        → ((b : ℕ) → heard_from b (xs ++ ys) ≡ heard_from b xs ++ heard_from (last_from b xs) ys)
        → heard_from a (w ∷ xs ++ ys) ≡ heard_from a (w ∷ xs) ++ heard_from (last_from a (w ∷ xs)) ys
    by_kind true y f g more = rw (f, heard_from, last_from) (more (number w))
    by_kind false true f g more =
        rw (f, g, heard_from, last_from)
        (ap (λ (l : List Heard). record { from = a; to = to_episode w; pause = to_pause w } ∷ l) (more a))
    by_kind false false f g more = rw (f, g, heard_from, last_from) (more a)

pub before_next : (l : List ℕ) (p : ℕ) → 0 < p → p < length l → before l (p + 1) ≡ before l p ++ get_or l p 0 ∷ []
before_next l p h g =
    rw (add-one, take-suc l p 0 g)
    (drop-append-le 1 (take p l) (get_or l p 0 ∷ []) (omega (arith, length-take-le p l (omega arith))))

last_append : (a : ℕ) (xs ys : List ℕ) → last_from a (xs ++ ys) ≡ last_from (last_from a xs) ys
unfolding last_from
last_append a [] ys = refl
last_append a (w ∷ xs) ys = by_kind (is_from w) refl (λ b. last_append b xs ys)
  where
    by_kind : (x : Bool) → is_from w ≡ x → ((b : ℕ) → last_from b (xs ++ ys) ≡ last_from (last_from b xs) ys)
        → last_from a (w ∷ xs ++ ys) ≡ last_from (last_from a (w ∷ xs)) ys
    by_kind true f more = rw (f, last_from) (more (number w))
    by_kind false f more = rw (f, last_from) (more a)

pub before_head : (l : List ℕ) → 0 < length l → heard_before l 1 ≡ []
unfolding heard_before heard_from
before_head [] h = absurd (omega arith)
before_head (w ∷ l) h = refl

module _ (l : List ℕ) (p : ℕ) (behind : 0 < p) (within : p < length l) where
  heard_next : heard_before l (p + 1) ≡ heard_before l p ++ heard_from (nearest_from l p) (get_or l p 0 ∷ [])
  unfolding heard_before nearest_from
  heard_next = rw (before_next l p behind within, heard_append)

  from_next : nearest_from l (p + 1) ≡ last_from (nearest_from l p) (get_or l p 0 ∷ [])
  unfolding nearest_from
  from_next = rw (before_next l p behind within, last_append)

  pub pass_from : kind (get_or l p 0) ≡ 2 → (heard_before l (p + 1) ≡ heard_before l p) × (nearest_from l (p + 1) ≡ number (get_or l p 0))
  pass_from k = (heard_next ∙ rw (heard_from_lem _ _ _ k, heard_nil, append-nil), from_next ∙ last_from_lem _ _ k)

  pub pass_to : kind (get_or l p 0) ≡ 3
      → (heard_before l (p + 1)
      ≡ heard_before l p ++ record { from = nearest_from l p; to = to_episode (get_or l p 0); pause = to_pause (get_or l p 0) } ∷ [])
      × (nearest_from l (p + 1) ≡ nearest_from l p)
  pass_to k = (heard_next ∙ rw (heard_to _ _ _ k, heard_nil), from_next ∙ last_to _ _ k)

  pub pass_voices : kind (get_or l p 0) ≡ 9 → heard_before l (p + 1) ≡ heard_before l p
  pass_voices k = heard_next ∙ rw (heard_voices _ _ _ k, heard_nil, append-nil)

  pub pass_end : kind (get_or l p 0) ≡ 15 → heard_before l (p + 1) ≡ heard_before l p
  pass_end k = heard_next ∙ rw (heard_end _ _ _ k, heard_nil, append-nil)

-- when all words have been passed over
pub before_all : (l : List ℕ) → heard_before l (length l) ≡ (content_of l).heard
unfolding heard_before
before_all l = rw take-length
