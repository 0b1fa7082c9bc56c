-- A log that passes at some ceilings, by its words alone: its end says how many to words it has, and behind the head stand its voices words.
use mathlib.Core.Path.{◌≡◌, refl, ◌∙◌, sym, ap, subst}
use mathlib.Core.Bool.{Bool, true, false}
use mathlib.Core.List.{List}
use Prim.Native.Nat.{ℕ, ◌+◌, ◌-◌, ◌≤◌}
use native.Mathlib.Omega.{arith}
use lib.ListN.{length, get_or, drop, length-drop}
use lib.Seq.{get_or-drop}
use lib.Dec.{ltb}
use borrow.Author.Tests.{eq-eqb, ne_eqb, ltb-true, ltb-false}
use Rattle.std.proofs.lemmas.List.Sums.{prefix_len_is}
use Rattle.logs.specs.Words.{kind, number}
use Rattle.logs.specs.Log.{is_voices, graph_of, voices_count, PassedLog, PassesWith}
use Rattle.logs.specs.Voices.{voices_behind}
use Rattle.logs.proofs.WellFormed.{WellFormed, well_formed, passes_own}

module _ (l : List ℕ) (p : PassedLog l) where
  formed : WellFormed p.0 l p.1 p.2
  formed = well_formed p.0 l p.1 p.2 p.3

  pub passed_long : 2 ≤ length l
  passed_long = formed.long

  pub passed_few : (n : ℕ) → (graph_of l).n ≡ n → n ≤ 256
  passed_few n e = omega (arith, e, formed.episodes, p.4)

  pub passed_with : (n : ℕ) → (graph_of l).n ≡ n → PassesWith l n (number (get_or l (length l - 1) 0))
  passed_with n e =
      subst (λ (k : ℕ). PassesWith l k (number (get_or l (length l - 1) 0))) (sym formed.episodes ∙ e)
      (subst (λ (t : ℕ). PassesWith l p.1 t) (sym formed.end_number) (passes_own p.0 l p.1 p.2 p.3))

  pub passed_voices : voices_behind l ≡ voices_count l
  passed_voices =
      prefix_len_is is_voices (drop 1 l) (voices_count l) 0
      (omega (arith, length-drop 1 l, formed.voices.within))
      (λ j h. eq-eqb (kind (get_or (drop 1 l) j 0)) 9 (ap kind (get_or-drop 1 l j 0) ∙ formed.voices.before (1 + j) (omega arith) (omega arith)))
      (λ h. ne_eqb (kind (get_or (drop 1 l) (voices_count l) 0)) 9
      (λ e. none (sym (ap kind (get_or-drop 1 l (voices_count l) 0)) ∙ e)))
    where
      -- behind them stands the end, or a from word
      none : kind (get_or l (1 + voices_count l) 0) ≡ 9 → ⊥
      none e = by_place (ltb (voices_count l + 2) (length l)) refl
        where
          nine : kind (get_or l (voices_count l + 1) 0) ≡ 9
          nine = let same : voices_count l + 1 ≡ 1 + voices_count l = omega arith in ap (λ (i : ℕ). kind (get_or l i 0)) same ∙ e

          by_place : (b : Bool) → ltb (voices_count l + 2) (length l) ≡ b → ⊥
          by_place true f = let more = ltb-true (voices_count l + 2) (length l) f in formed.voices.none (omega arith) nine
          by_place false f =
              let few = ltb-false (voices_count l + 2) (length l) f in
              let within = formed.voices.within in
              let last : voices_count l + 1 ≡ length l - 1 = omega arith in
              omega (arith, nine, ap (λ (i : ℕ). kind (get_or l i 0)) last, formed.end_kind)
