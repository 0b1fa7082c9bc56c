-- The numbers that pass a test, each written as its word behind a first word, number by number.
use mathlib.Core.Path.{◌≡◌, refl, sym, ap, subst, ◌∙◌}
use mathlib.Core.Bool.{Bool, true, false}
use mathlib.Core.List.{List, [], ◌∷◌, ◌++◌, map}
use Prim.Native.Nat.{ℕ, ◌+◌, ◌≤◌, ◌<◌}
use native.Mathlib.Omega.{arith}
use lib.ListN.{length, get_or, set, length-append, length-set}
use Rattle.paths.specs.Passing.{passing}
use Rattle.paths.proofs.Passing.{passing_more, passing_same, passing_skip}
use Rattle.writing.specs.Layout.{BeginsWith}
use Rattle.writing.proofs.Buffers.{begins_itself, begins_word}

-- the first word is left, and the `k` numbers below `v` that pass are written behind it; `form` gives the word of a number
pub record Listing (test : ℕ → Bool) (form : ℕ → ℕ) (o o' : List ℕ) (n k v : ℕ) : Type 0 where
  pub item : v ≤ n
  pub few : k ≤ v
  pub same_length : length o' ≡ length o
  pub size : k ≡ length (passing test v)
  pub words : BeginsWith (get_or o 0 0 ∷ map form (passing test v)) o o'

module _ (test : ℕ → Bool) (form : ℕ → ℕ) (o : List ℕ) where
  pub listing_none : (n : ℕ) → 0 < length o → Listing test form o o n 0 0
  unfolding passing
  listing_none n h = record { item = omega arith; few = omega arith; same_length = refl; size = refl; words = begins_itself o h }

  module _ (o' : List ℕ) (n k v : ℕ) (s : Listing test form o o' n k v) where
    moved : {ms ms' : List ℕ} (b : List ℕ) → ms ≡ ms' → BeginsWith (get_or o 0 0 ∷ map form ms) o b
        → BeginsWith (get_or o 0 0 ∷ map form ms') o b
    moved b e = subst (λ (l : List ℕ). BeginsWith (get_or o 0 0 ∷ map form l) o b) e

    pub listing_more : v < n → k + 1 < length o → test v ≡ true → Listing test form o (set o' (k + 1) (form v)) n (k + 1) (v + 1)
    listing_more l h e =
        let f : passing test (v + 1) ≡ passing test v ++ v ∷ [] = passing_more test v e in
        let z = s.size in
        let q = s.few in
        record {
          item = omega arith;
          few = omega arith;
          same_length = length-set o' (k + 1) (form v) ∙ s.same_length;
          size = sym (ap length f ∙ length-append (passing test v) (v ∷ []) ∙ omega arith);
          words =
              moved (set o' (k + 1) (form v)) (sym f)
              (begins_word form (get_or o 0 0) v (k + 1) (passing test v) o o' s.words (omega arith) h);
        }

    pub listing_same : v < n → test v ≡ false → Listing test form o o' n k (v + 1)
    listing_same l e =
        let f : passing test (v + 1) ≡ passing test v = passing_same test v e in
        let q = s.few in
        record { item = omega arith; few = omega arith; same_length = s.same_length; size = rw f s.size; words = moved o' (sym f) s.words }

    -- none passes up to `u`
    pub listing_skip : (u : ℕ) → v ≤ u → u ≤ n → ((c : ℕ) → v ≤ c → c < u → test c ≡ false) → Listing test form o o' n k u
    listing_skip u l h none =
        let f : passing test u ≡ passing test v = passing_skip test v u l none in
        record { item = h; few = omega (arith, s.few); same_length = s.same_length; size = rw f s.size; words = moved o' (sym f) s.words }
