-- Another relation for the same search: what a search has found in one relation on the items holds in one that has the same pairs there.
use Rattle.std.proofs.lemmas.Grind.{common_steps}
use mathlib.Core.Path.{◌≡◌, refl}
use mathlib.Core.Logic.{◌≢◌}
use Prim.Native.Nat.{ℕ, ◌<◌}
use native.Mathlib.Omega.{arith}
use Rattle.searching.specs.Items.{
  Tables,
  Reached,
  from_end,
  from_next,
  Pairing,
  Exhausted,
  SeenFrom,
  Searching,
  Trail,
  Flipping,
  Shrunk,
  SameChains,
}

-- each pair of items in R is in R'
abbrev pub Within : ℕ → (ℕ → ℕ → Type 0) → (ℕ → ℕ → Type 0) → Type 0
Within m R R' = (a b : ℕ) → a < m → b < m → R a b → R' a b

module _ {m : ℕ} {R R' : ℕ → ℕ → Type 0} (to : Within m R R') where
  pub reached_within : {next : ℕ → ℕ} {b : ℕ} → Reached m R next b → Reached m R' next b
  reached_within (from_end {a = a} {b = b} al bl e r) = from_end al bl e (to a b al bl r)
  reached_within (from_next {a = a} {b = b} {c = c} al bl cl e k r) = from_next al bl cl e (reached_within k) (to a b al bl r)

  pub pairing_within : {t : Tables} {a : ℕ} → Pairing m R t a → Pairing m R' t a
  pairing_within s = grind (arith, common_steps)

  pub exhausted_within : {t : Tables} → Within m R' R → Exhausted m R t → Exhausted m R' t
  exhausted_within back x =
      record {
        closed = λ a b al bl o r. x.closed a b al bl o (back a b al bl r);
        kept = x.kept;
        sound = λ b bl h. reached_within (x.sound b bl h);
      }

  -- where the queue holds items
  seen_within : (t : Tables) {tail b : ℕ} → ((p : ℕ) → p < tail → t.queue p < m) → b < m → SeenFrom R t tail b → SeenFrom R' t tail b
  seen_within t {tail} {b} queued bl (p, pl, v, r) = (p, pl, v, to (t.queue p) b (queued p pl) bl r)

  -- and the same dead items
  module _ {dead dead' : ℕ → ℕ} (same : (b : ℕ) → b < m → dead' b ≡ dead b) where
    new_within : {b : ℕ} → b < m → dead b ≢ 1 → dead' b ≢ 1
    new_within {b} bl n d = n (omega (arith, same b bl))

    pub searching_within : {t : Tables} {head tail : ℕ} → Within m R' R → Searching m R dead t head 0 tail → Searching m R' dead' t head 0 tail
    searching_within back s = grind (arith, common_steps)

    pub trail_within : {t : Tables} {tail : ℕ} → Trail m R dead t tail → Trail m R' dead' t tail
    trail_within {t} {tail} l =
        record {
          queued = l.queued;
          different = l.different;
          earlier =
              λ p b pl bl h.
              let (n, f) = l.earlier p b pl bl h in
              (new_within bl n, seen_within t (λ q ql. l.queued q (omega arith)) bl f);
          last = l.last;
        }

    pub flipping_within : {t₀ t : Tables} {tail b : ℕ} → Trail m R dead t₀ tail → Flipping m R dead t₀ t tail b
        → Flipping m R' dead' t₀ t tail b
    flipping_within l f = grind (arith, common_steps)

  pub shrunk_within : {t t' : Tables} → Shrunk m R t t' → Shrunk m R' t t'
  shrunk_within k = grind (arith, common_steps)

pub chains_none : {m : ℕ} {t : Tables} → SameChains m t t
chains_none = record { next_same = λ a al. refl; prev_same = λ b bl. refl }

pub links_then : {m : ℕ} {t t' t'' : Tables} → SameChains m t t' → SameChains m t' t'' → SameChains m t t''
links_then f g = grind (arith, common_steps)

-- one chain fewer than in tables with the same chains
pub shrunk_from : {m : ℕ} {R : ℕ → ℕ → Type 0} {t t₀ t' : Tables} → SameChains m t t₀ → Shrunk m R t₀ t' → Shrunk m R t t'
shrunk_from s k = grind (arith, common_steps)

-- and of other tables with the new chains
pub shrunk_to : {m : ℕ} {R : ℕ → ℕ → Type 0} {t t' t'' : Tables} → SameChains m t' t'' → Shrunk m R t t' → Shrunk m R t t''
shrunk_to s k = grind (arith, common_steps)
