-- What a text call leaves, as its callers use it: a text is given exactly where the text buffer is long enough, and stands within it.
use mathlib.Core.Path.{◌≡◌, refl}
use mathlib.Core.Logic.{◌↔◌}
use mathlib.Core.List.{List}
use Prim.Native.Nat.{ℕ, ◌≤◌}
use native.Mathlib.Omega.{arith}
use lib.ListN.{length}
use Rattle.std.specs.Prelude.{Result, Ok, Err}
use Rattle.logs.specs.Answer.{reason_number}
use Rattle.logs.specs.declared.Ceilings.{Ceilings}
use Rattle.logs.specs.declared.Refusal.{Refusal}
use Rattle.writing.proofs.Buffers.{begins_length}
use Rattle.text.specs.Printed.{text_bytes, TextLeft}
use Rattle.text.specs.declared.Printed.{Printed}

module _ (m : Ceilings) (b t o w t' o' w' : List ℕ) where
  pub text_exactly : (r : Result Printed Refusal) → TextLeft m b t o w t' o' w' r → ((p : Printed) × (r ≡ Ok p)) ↔ (text_bytes ≤ length t)
  unfolding TextLeft
  text_exactly (Ok p) left = (λ given. left.0, λ enough. (p, refl))
  text_exactly (Err e) left =
      let short = left.0 in
      (λ (p, none). absurd (not_ok p none), λ enough. absurd (omega (arith, short, enough)))
    where
      not_ok : (p : Printed) → ◌≡◌ {A = Result Printed Refusal} (Err e) (Ok p) → ⊥
      not_ok p same = let none : ◌≡◌ {A = ℕ} 0 1 = cc in omega arith

  pub text_refused : (r : Result Printed Refusal) → TextLeft m b t o w t' o' w' r → (e : Refusal) → r ≡ Err e
      → (reason_number e.reason ≡ 11) × (e.place ≡ text_bytes) × (t' ≡ t) × (o' ≡ o) × (w' ≡ w)
  unfolding TextLeft
  text_refused r left e is = let (short, reason, place, text, out, work) = rw is at left in (reason, place, text, out, work)

  pub text_within : (p : Printed) → TextLeft m b t o w t' o' w' (Ok p) → p.bytes ≤ length t'
  unfolding TextLeft
  text_within p left = omega (arith, left.2, left.3.0, begins_length _ t t' left.3)
