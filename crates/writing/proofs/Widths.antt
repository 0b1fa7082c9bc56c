-- The voices of the numbers that pass a test, number by number.
use mathlib.Core.Path.{◌≡◌, refl, ap₂}
use mathlib.Core.Bool.{Bool, true, false}
use mathlib.Core.Logic.{◌≢◌}
use mathlib.Core.List.Memᴰ.{head as here}
use mathlib.Core.List.Memᴰ.{tail as there}
use mathlib.Core.List.{List, [], ◌∷◌, ◌++◌}
use Prim.Native.Nat.{ℕ, zero, suc, ◌+◌, ◌≤◌}
use native.Mathlib.Decide.{ℕ_discrete}
use native.Mathlib.Numerals.{add-one}
use native.Mathlib.Omega.{arith}
use lib.ListN.{length, length-append, length-replicate, replicate}
use Rattle.order.specs.Order.{All}
use Rattle.paths.specs.Passing.{passing}
use Rattle.paths.specs.Items.{by_voices}
use Rattle.paths.proofs.Passing.{passing_more, passing_same}

-- the voices of these numbers alone are looked up
pub by_voices_same : (f g : ℕ → ℕ) (s : List ℕ) → All (λ v. f v ≡ g v) s → by_voices f s ≡ by_voices g s
unfolding by_voices
by_voices_same f g [] same = refl
by_voices_same f g (v ∷ s) same =
    ap₂ (λ (c : ℕ) (l : List ℕ). replicate c v ++ l) (same v (here refl)) (by_voices_same f g s (λ x m. same x (there m)))

length_more : (voices : ℕ → ℕ) (s : List ℕ) (v : ℕ) → length (by_voices voices (s ++ v ∷ [])) ≡ length (by_voices voices s) + voices v
unfolding by_voices
length_more voices [] v = omega (arith, length-append (replicate (voices v) v) [], length-replicate (voices v) v)
length_more voices (u ∷ s) v =
    omega (
      arith,
      length-append (replicate (voices u) u) (by_voices voices (s ++ v ∷ [])),
      length-append (replicate (voices u) u) (by_voices voices s),
      length_more voices s v,
    )

-- the voices of those below `k` that pass
abbrev pub width_below : (ℕ → ℕ) → (ℕ → Bool) → ℕ → ℕ
width_below voices test k = length (by_voices voices (passing test k))

module _ (voices : ℕ → ℕ) (test : ℕ → Bool) where
  pub width_none : width_below voices test 0 ≡ 0
  unfolding by_voices passing
  width_none = refl

  pub width_more : (k : ℕ) → test k ≡ true → width_below voices test (k + 1) ≡ width_below voices test k + voices k
  width_more k e = rw (passing_more test k e) (length_more voices (passing test k) k)

  pub width_same : (k : ℕ) → test k ≡ false → width_below voices test (k + 1) ≡ width_below voices test k
  width_same k e = rw (passing_same test k e) refl

  -- those below a number have at most as many as those below a larger one
  pub width_le : (j k : ℕ) → j ≤ k → width_below voices test j ≤ width_below voices test k
  width_le j zero h = let none : j ≡ 0 = omega arith in rw none (omega arith)
  width_le j (suc k) h = go (ℕ_discrete j (suc k)) (test k) refl (width_le j k)
    where
      go : Dec (j ≡ suc k) → (b : Bool) → test k ≡ b → (j ≤ k → width_below voices test j ≤ width_below voices test k)
          → width_below voices test j ≤ width_below voices test (suc k)
      go (yes e) b f rest = rw e (omega arith)
      go (no ne) true f rest = rw (← add-one) (omega (arith, rest (omega arith), width_more k f))
      go (no ne) false f rest = rw (← add-one) (omega (arith, rest (omega arith), width_same k f))

  -- what is counted for `v`: its voices where it passes, else 0
  pub counted : (v r : ℕ) → r ≡ elim (test v) [ true ↦ voices v | false ↦ 0 ] → r ≢ 0 → (test v ≡ true) × (r ≡ voices v)
  counted v r e ne = go (test v) refl
    where
      go : (b : Bool) → test v ≡ b → (test v ≡ true) × (r ≡ voices v)
      go true f = (f, rw f at e)
      go false f = absurd (ne (rw f at e))

  -- where those that pass have voices, nothing is counted for the others alone
  pub not_counted : (v r : ℕ) → (test v ≡ true → 1 ≤ voices v) → r ≡ elim (test v) [ true ↦ voices v | false ↦ 0 ] → r ≡ 0 → test v ≡ false
  not_counted v r voiced e z = go (test v) refl
    where
      go : (b : Bool) → test v ≡ b → test v ≡ false
      go true f = let some : r ≡ voices v = rw f at e in absurd (omega (arith, voiced f))
      go false f = f
