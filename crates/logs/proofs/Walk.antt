-- Passing over the words behind the head by groups: a from word, then its to words one by one.
use mathlib.Core.Path.{◌≡◌, ◌∙◌, sym, subst}
use mathlib.Core.Logic.{⊎_elim}
use mathlib.Core.Bool.{true, false, true≢false}
use mathlib.Core.List.{List}
use Prim.Native.Nat.{ℕ, zero, suc, ◌+◌, ◌≤◌, ◌<◌}
use native.Mathlib.Decide.{ℕ_discrete}
use native.Mathlib.Omega.{arith}
use lib.ListN.{length}
use Rattle.logs.specs.Log.{to_before_last, voices_count, PassesWith}
use Rattle.logs.specs.Groups.{ToWords, Starts}
use Rattle.logs.proofs.Asked.{there_to}
use Rattle.logs.proofs.WellFormed.{well_formed, behind_voices}

-- from one place up to another
pub up : (P : ℕ → Type 0) (a b : ℕ) → a ≤ b → P a → ((p : ℕ) → a ≤ p → p < b → P p → P (p + 1)) → P b
up P a zero h z s = subst P (omega arith) z
up P a (suc b) h z s = go (ℕ_discrete a (suc b)) (λ le. up P a b le z (λ p l m. s p l (omega arith)))
  where
    go : Dec (a ≡ suc b) → (a ≤ b → P b) → P (suc b)
    go (yes e) below = subst P e z
    go (no ne) below = subst P (omega arith) (s b (omega arith) (omega arith) (below (omega arith)))

module _ (l : List ℕ) (start : ℕ) where
  -- a to word before others
  pub words_before : (p : ℕ) → to_before_last l start ≡ true → ToWords l (start + 1) p → ToWords l start p
  words_before p e s =
      let before = s.start_before in
      record { start_before = omega arith; within = s.within; each = λ q a b. go q a b (ℕ_discrete q start) }
    where
      go : (q : ℕ) → start ≤ q → q < p → Dec (q ≡ start) → to_before_last l q ≡ true
      go q a b (yes same) = rw same e
      go q a b (no other) = s.each q (omega arith) b

-- of a log that passes with `n` episodes and `t` to words
module _ (l : List ℕ) (n t : ℕ) (e : PassesWith l n t) where
  -- a group starts behind the head and the voices words
  pub starts_first : Starts l (voices_count l + 1)
  starts_first =
      let f = well_formed _ l n t e in
      record { behind = omega arith; within = f.voices.within; starts = λ h. f.starts (omega arith) }

  -- it starts behind the voices words
  pub group_behind : (p : ℕ) → Starts l p → p + 1 < length l → voices_count l < p
  group_behind p s inner =
      let two = s.starts inner in
      behind_voices (well_formed _ l n t e) p s.behind (λ nine. omega arith)

  -- behind a from word stands a to word, and the last word behind that
  pub to_behind : (p : ℕ) → Starts l p → p + 1 < length l → (p + 2 < length l) × (to_before_last l (p + 1) ≡ true)
  to_behind p s inner =
      let (more, k) = (well_formed _ l n t e).follows p (group_behind p s inner) inner (s.starts inner) in
      (more, there_to l (p + 1) (omega arith) k)

  -- behind the to words of a group another starts
  pub starts_next : (start p : ℕ) → voices_count l < start → ToWords l start p → to_before_last l p ≡ false → Starts l p
  starts_next start p behind s other =
      let before = s.start_before in
      record {
        behind = omega arith;
        within = s.within;
        starts = λ inner.
            ⊎_elim (λ k. k) (λ k. absurd (true≢false (sym (there_to l p inner k) ∙ other))) ((well_formed _ l n t e).between p (omega arith) inner);
      }
