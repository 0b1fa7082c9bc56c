-- What a call of any service leaves, told by its answer: the laws are the same for all outcomes.
use mathlib.Core.Path.{◌≡◌, refl, sym, subst, ◌∙◌}
use mathlib.Core.Logic.{◌≢◌, ◌⊎◌, inl, inr, ⊎_elim}
use Prim.Native.Nat.{ℕ}
use Rattle.logs.specs.Answer.{Answer, given, refused}
use Rattle.logs.proofs.Asked.{not_both}

-- The answer `a` of a call whose questions 1 to 12 and 18 answer `asks`. Either it is refused as they are, and `Same` holds; or they are answered yes,
-- with `counts`, and the call shows a loop or gives what the service gives.
pub data Leaves (asks : Answer (ℕ × ℕ)) (counts : ℕ × ℕ) (Gives Loops : ℕ → Type 0) (Same : Type 0) (a : Answer ℕ) : Type 0 where
  denied : (q p : ℕ) → a ≡ refused q p → asks ≡ refused q p → Same → Leaves asks counts Gives Loops Same a
  looped : (k : ℕ) → a ≡ refused 13 k → asks ≡ given counts → Loops k → Leaves asks counts Gives Loops Same a
  gave : (c : ℕ) → a ≡ given c → asks ≡ given counts → Gives c → Leaves asks counts Gives Loops Same a

module _ {asks : Answer (ℕ × ℕ)} {counts : ℕ × ℕ} {Gives Loops : ℕ → Type 0} {Same : Type 0} {a : Answer ℕ} where
  -- a call that gives a count was answered yes
  pub given_gave : Leaves asks counts Gives Loops Same a → (c : ℕ) → a ≡ given c → (asks ≡ given counts) × Gives c
  given_gave (denied q p f e s) c g = absurd (not_both a c q p g f)
  given_gave (looped k f e s) c g = absurd (not_both a c 13 k g f)
  given_gave (gave d f e s) c g = let same : d ≡ c = cc in (e, subst Gives same s)

  -- a refusal is that of the questions; or it is 13, they were answered yes, and a loop is shown
  pub refused_by : Leaves asks counts Gives Loops Same a → (q p : ℕ) → a ≡ refused q p
      → ((asks ≡ refused q p) × Same) ⊎ ((q ≡ 13) × (asks ≡ given counts) × Loops p)
  refused_by (denied r t f e s) q p g =
      let same : ◌≡◌ {A = Answer ℕ} (refused r t) (refused q p) = sym f ∙ g in
      inl (e ∙ cc, s)
  refused_by (looped k f e s) q p g = let same : k ≡ p = cc in inr (cc, e, subst Loops same s)
  refused_by (gave c f e s) q p g = absurd (not_both a c q p f g)

  -- a call that is answered yes gives what the service gives, or shows a loop
  pub asked_yes : Leaves asks counts Gives Loops Same a → asks ≡ given counts
      → ((c : ℕ) × (a ≡ given c) × Gives c) ⊎ ((k : ℕ) × (a ≡ refused 13 k) × Loops k)
  asked_yes (denied q p f e s) g = absurd (not_both asks counts q p g e)
  asked_yes (looped k f e s) g = inr (k, f, s)
  asked_yes (gave c f e s) g = inl (c, f, s)

  -- a call is refused where its questions are
  pub asked_refused : Leaves asks counts Gives Loops Same a → (q p : ℕ) → asks ≡ refused q p → a ≡ refused q p
  asked_refused (denied r t f e s) q p g =
      let same : ◌≡◌ {A = Answer (ℕ × ℕ)} (refused r t) (refused q p) = sym e ∙ g in
      f ∙ cc
  asked_refused (looped k f e s) q p g = absurd (not_both asks counts q p e g)
  asked_refused (gave c f e s) q p g = absurd (not_both asks counts q p e g)

  -- the questions do not refuse with 13, so that is a loop, and any other number is theirs
  pub refused_loop : ((q p : ℕ) → asks ≡ refused q p → q ≢ 13) → Leaves asks counts Gives Loops Same a → (k : ℕ) → a ≡ refused 13 k
      → (asks ≡ given counts) × Loops k
  refused_loop other h k g = ⊎_elim (λ d. absurd (other 13 k d.0 refl)) (λ d. (d.1, d.2)) (refused_by h 13 k g)

  pub refused_asked : Leaves asks counts Gives Loops Same a → (q p : ℕ) → q ≢ 13 → a ≡ refused q p → (asks ≡ refused q p) × Same
  refused_asked h q p other g = ⊎_elim (λ d. d) (λ d. absurd (other d.0)) (refused_by h q p g)
