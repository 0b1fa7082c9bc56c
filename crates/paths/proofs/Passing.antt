-- The numbers below k that pass a test: one more, which they are, and how many.
use mathlib.Core.Path.{◌≡◌, refl, sym, ap, ap₂, ◌∙◌}
use mathlib.Core.Logic.{◌⊎◌, inl, inr, ⊎_elim}
use mathlib.Core.Bool.{Bool, true, false}
use mathlib.Core.List.Memᴰ
use mathlib.Core.List.Memᴰ.{append_cases}
use mathlib.Core.List.Memᴰ.{eq_of_singleton}
use mathlib.Core.List.Memᴰ.{head as here}
use mathlib.Core.List.Memᴰ.{not-nil}
use mathlib.Core.List.IsChain
use mathlib.Core.List.{
  List,
  [],
  ◌∷◌,
  ◌++◌,
  Memᴰ as Mem,
  Nodup,
}
use Prim.Native.Nat.{ℕ, zero, suc, ◌+◌, ◌≤◌, ◌<◌}
use native.Mathlib.Decide.{ℕ_discrete}
use native.Mathlib.Numerals.{add-one}
use native.Mathlib.Omega.{arith}
use lib.ListN.{length, length-append}
use Rattle.paths.specs.Graph.{Rising}
use Rattle.paths.specs.Passing.{extend, passing}
use Rattle.paths.proofs.Numbers.{nodup_below, rising_snoc, rising_nodup}

module _ (test : ℕ → Bool) where
  passing_suc : (k : ℕ) (b : Bool) → test k ≡ b → passing test (suc k) ≡ extend b (passing test k) k
  unfolding passing
  passing_suc k b e = ap (λ (c : Bool). extend c (passing test k) k) e

  pub passing_more : (k : ℕ) → test k ≡ true → passing test (k + 1) ≡ passing test k ++ (k ∷ [])
  passing_more k e = rw add-one (passing_suc k true e)

  pub passing_same : (k : ℕ) → test k ≡ false → passing test (k + 1) ≡ passing test k
  passing_same k e = rw add-one (passing_suc k false e)

  -- one below `k + 1` is one below `k`, or `k`, which passes
  mem_suc : {v : ℕ} (k : ℕ) → Mem v (passing test (suc k)) → Mem v (passing test k) ⊎ ((v ≡ k) × (test k ≡ true))
  mem_suc {v} k m = go (test k) refl
    where
      go : (b : Bool) → test k ≡ b → Mem v (passing test k) ⊎ ((v ≡ k) × (test k ≡ true))
      go true e =
          let n : Mem v (passing test k ++ (k ∷ [])) = rw (passing_suc k true e) at m in
          ⊎_elim inl (λ q. inr (eq_of_singleton q, e)) (append_cases (passing test k) n)
      go false e = inl (rw (passing_suc k false e) at m)

  suc_mem : {v : ℕ} (k : ℕ) → Mem v (passing test k) → Mem v (passing test (suc k))
  suc_mem {v} k m = go (test k) refl
    where
      go : (b : Bool) → test k ≡ b → Mem v (passing test (suc k))
      go true e = rw (passing_suc k true e) (Memᴰ.append_left (k ∷ []) m)
      go false e = rw (passing_suc k false e) m

  pub passing_below : {v : ℕ} (k : ℕ) → Mem v (passing test k) → v < k
  unfolding passing
  passing_below zero m = absurd (not-nil m)
  passing_below {v} (suc k) m = go (passing_below k) (mem_suc k m)
    where
      go : (Mem v (passing test k) → v < k) → Mem v (passing test k) ⊎ ((v ≡ k) × (test k ≡ true)) → v < suc k
      go rest (inl n) = let h = rest n in omega arith
      go rest (inr e) = omega arith

  pub passing_test : {v : ℕ} (k : ℕ) → Mem v (passing test k) → test v ≡ true
  unfolding passing
  passing_test zero m = absurd (not-nil m)
  passing_test {v} (suc k) m = ⊎_elim (passing_test k) (λ e. ap test e.0 ∙ e.1) (mem_suc k m)

  pub test_passing : {v : ℕ} (k : ℕ) → v < k → test v ≡ true → Mem v (passing test k)
  test_passing zero h e = absurd (omega arith)
  test_passing {v} (suc k) h e = go (λ l. test_passing k l e) (ℕ_discrete v k)
    where
      go : (v < k → Mem v (passing test k)) → Dec (v ≡ k) → Mem v (passing test (suc k))
      go rest (no ne) = suc_mem k (rest (omega arith))
      go rest (yes q) = rw (passing_suc k true (ap test (sym q) ∙ e)) (Memᴰ.append_right (passing test k) (here q))

  -- they rise, so none is there twice, and there are at most `k`
  pub passing_rising : (k : ℕ) → Rising (passing test k)
  unfolding passing
  passing_rising zero = IsChain.nil
  passing_rising (suc k) = go (test k) (passing_rising k)
    where
      go : (b : Bool) → Rising (passing test k) → Rising (extend b (passing test k) k)
      go true r = rising_snoc r (λ v m. passing_below k m)
      go false r = r

  pub passing_nodup : (k : ℕ) → Nodup (passing test k)
  passing_nodup k = rising_nodup (passing_rising k)

  pub length_passing : (k : ℕ) → length (passing test k) ≤ k
  length_passing k = nodup_below k (passing test k) (passing_nodup k) (λ v m. passing_below k m)

  -- those below a number are not more than those below a larger one
  pub passing_le : (j k : ℕ) → j ≤ k → length (passing test j) ≤ length (passing test k)
  passing_le j zero h = let none : j ≡ 0 = omega arith in rw none (omega arith)
  passing_le j (suc k) h = go (ℕ_discrete j (suc k)) (test k) refl (passing_le j k)
    where
      go : Dec (j ≡ suc k) → (b : Bool) → test k ≡ b → (j ≤ k → length (passing test j) ≤ length (passing test k))
          → length (passing test j) ≤ length (passing test (suc k))
      go (yes e) b f rest = rw e (omega arith)
      go (no ne) true f rest = omega (arith, rest (omega arith), ap length (passing_suc k true f), length-append (passing test k) (k ∷ []))
      go (no ne) false f rest = rw (passing_suc k false f) (rest (omega arith))

  -- where none passes from a number on up to another, the same are below both
  pub passing_skip : (j k : ℕ) → j ≤ k → ((v : ℕ) → j ≤ v → v < k → test v ≡ false) → passing test k ≡ passing test j
  passing_skip j zero h none = let e : j ≡ 0 = omega arith in rw e refl
  passing_skip j (suc k) h none = go (ℕ_discrete j (suc k)) (λ l. passing_skip j k l (λ v i m. none v i (omega arith)))
    where
      go : Dec (j ≡ suc k) → (j ≤ k → passing test k ≡ passing test j) → passing test (suc k) ≡ passing test j
      go (yes e) rest = rw e refl
      go (no ne) rest = passing_suc k false (none k (omega arith) (omega arith)) ∙ rest (omega arith)

-- tests that agree on the numbers below `k` let the same ones pass
pub passing_equal : (f g : ℕ → Bool) (k : ℕ) → ((v : ℕ) → v < k → f v ≡ g v) → passing f k ≡ passing g k
unfolding passing
passing_equal f g zero same = refl
passing_equal f g (suc k) same =
    ap₂ (λ (b : Bool) (l : List ℕ). extend b l k) (same k (omega arith)) (passing_equal f g k (λ v h. same v (omega arith)))
