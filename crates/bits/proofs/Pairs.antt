-- A matrix that holds the pairs of a list: of none where its words are zero, and of one more where a bit is set.
use mathlib.Core.Path.{◌≡◌, ap}
use mathlib.Core.Logic.{◌⊎◌, inl, inr}
use mathlib.Core.List.Memᴰ.{append_cases}
use mathlib.Core.List.Memᴰ.{append_left}
use mathlib.Core.List.Memᴰ.{append_right}
use mathlib.Core.List.Memᴰ.{eq_of_singleton}
use mathlib.Core.List.Memᴰ.{head as here}
use mathlib.Core.List.Memᴰ.{not-nil}
use mathlib.Core.List.{
  List,
  [],
  ◌∷◌,
  ◌++◌,
  Memᴰ as Mem,
}
use Prim.Native.Nat.{ℕ, ◌+◌, ◌*◌, ◌/◌, ◌<◌}
use native.Mathlib.Decide.{ℕ_discrete}
use native.Mathlib.Omega.{arith}
use lib.ListN.{get_or}
use Rattle.bits.specs.Bits.{bit, BitSet}
use Rattle.bits.specs.Work.{matrix_words, Matrix}
use Rattle.bits.proofs.Rows.{bits_zero}
use Rattle.bits.proofs.Frames.{set_other}

-- the matrix at `base` has exactly the pairs of a list
abbrev pub Pairs : ℕ → List ℕ → List (ℕ × ℕ) → Type 0
Pairs base w ps = Matrix base w (λ a b. Mem (a, b) ps)

pub no_pairs : (base : ℕ) (w : List ℕ) → ((i : ℕ) → i < base + matrix_words → get_or w i 0 ≡ 0) → Pairs base w []
no_pairs base w zeros =
    record {
      sound = λ a b ha hb o.
          let z : bit w (base + 8 * a) b ≡ 0 = bits_zero w (base + 8 * a) b (zeros (base + 8 * a + b / 32) (omega arith)) in
          absurd (omega arith);
      complete = λ a b ha hb m. absurd (not-nil m);
    }

pub one_pair_more : {w w' : List ℕ} (base : ℕ) (ps : List (ℕ × ℕ)) (a b : ℕ) → b < 256 → Pairs base w ps → BitSet w w' (base + 8 * a) b
    → Pairs base w' (ps ++ (a, b) ∷ [])
one_pair_more {w} {w'} base ps a b hb m s =
    record {
      sound = λ x y hx hy e. sound x y hx hy e (ℕ_discrete x a) (ℕ_discrete y b);
      complete = λ x y hx hy n. complete x y hx hy (append_cases ps n) (ℕ_discrete x a) (ℕ_discrete y b);
    }
  where
    other : (x y : ℕ) → y < 256 → ((x ≡ a) × (y ≡ b) → ⊥) → bit w' (base + 8 * x) y ≡ bit w (base + 8 * x) y
    other x y hy ne = set_other base a b hb s x y hy ne

    sound : (x y : ℕ) → x < 256 → y < 256 → bit w' (base + 8 * x) y ≡ 1 → Dec (x ≡ a) → Dec (y ≡ b) → Mem (x, y) (ps ++ (a, b) ∷ [])
    sound x y hx hy e (yes p) (yes r) = append_right ps (here (cc))
    sound x y hx hy e (no p) d = append_left ((a, b) ∷ []) (m.sound x y hx hy (rw (other x y hy (λ f. p f.0)) at e))
    sound x y hx hy e (yes p) (no r) = append_left ((a, b) ∷ []) (m.sound x y hx hy (rw (other x y hy (λ f. r f.1)) at e))

    complete : (x y : ℕ) → x < 256 → y < 256 → Mem (x, y) ps ⊎ Mem {A = ℕ × ℕ} (x, y) ((a, b) ∷ []) → Dec (x ≡ a) → Dec (y ≡ b)
        → bit w' (base + 8 * x) y ≡ 1
    complete x y hx hy n (yes p) (yes r) = rw (p, r) s.here
    complete x y hx hy (inl n) (no p) d = rw (other x y hy (λ f. p f.0)) (m.complete x y hx hy n)
    complete x y hx hy (inl n) (yes p) (no r) = rw (other x y hy (λ f. r f.1)) (m.complete x y hx hy n)
    complete x y hx hy (inr n) (no p) d = absurd (p (ap (λ (v : ℕ × ℕ). v.0) (eq_of_singleton n)))
    complete x y hx hy (inr n) (yes p) (no r) = absurd (r (ap (λ (v : ℕ × ℕ). v.1) (eq_of_singleton n)))
