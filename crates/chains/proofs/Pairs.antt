-- Pairs from single items: each item gets the first that it has and that stands behind none yet.
use Rattle.std.proofs.lemmas.Grind.{common_steps}
use mathlib.Core.Path.{◌≡◌, ◌∙◌}
use mathlib.Core.Logic.{◌≢◌}
use mathlib.Core.List.{List}
use Prim.Native.Nat.{ℕ, ◌+◌, ◌*◌, ◌<◌}
use native.Mathlib.Omega.{arith}
use Rattle.bits.specs.Bits.{BitSet, NextNew}
use Rattle.bits.specs.Work.{seen_at, Outside, none_at}
use Rattle.bits.proofs.Frames.{outside_then, outside_wider, bit_behind}
use Rattle.searching.specs.Items.{Tables, Pairing, Flipped}
use Rattle.searching.specs.State.{tables, Pairs, Sized, PutIn}
use Rattle.chains.specs.Joined.{PairedIn}
use Rattle.searching.proofs.Relations.{pairing_within}
use Rattle.searching.proofs.Showing.{sized_kept, forth, back}

module _ {m : ℕ} {R : ℕ → ℕ → Type 0} {t : Tables} {a : ℕ} (s : Pairing m R t a) where
  -- `a` gets `b`: what a search would do that has `a` alone in its queue
  pairing_more : {t' : Tables} (b : ℕ) → a < m → b < m → R a b → t.seen b ≡ 0 → Flipped m t t' a b → t'.seen b ≡ 1
      → ((c : ℕ) → c < m → c ≢ b → t'.seen c ≡ t.seen c) → Pairing m R t' (a + 1)
  pairing_more b al bl r unseen w here other = grind (arith, common_steps)

-- ---- one item

module _ {w : List ℕ} {base m a : ℕ} (s : Pairing m (Pairs base w) (tables w) a) where
  -- it gets `b`; `w₁` is `w` with the bit of `b` set
  pub pair_one : {w₁ w₂ : List ℕ} {b : ℕ} → Sized w base m → a < m → b < m → NextNew w (base + 8 * a) seen_at 0 b → BitSet w w₁ seen_at b
      → PutIn w₁ w₂ a b → PairedIn w w₂ base m (a + 1)
  pair_one {w₁} {w₂} {b} z al bl n k p =
      record {
        outside = outside_then (outside_wider (omega arith) (omega arith) marked) (outside_wider (omega arith) (omega arith) p.outside);
        pairing = pairing_more s b al bl new.0 new.1 flipped (same b ∙ k.here) (λ c cl ne. same c ∙ k.others c ne);
      }
    where
      few : m < 256
      few = z.items

      new : Pairs base w a b × ((tables w).seen b ≡ 0)
      new = n.new (omega arith)

      marked : Outside seen_at none_at w w₁
      marked = grind (arith, common_steps)

      same : (c : ℕ) → (tables w₂).seen c ≡ (tables w₁).seen c
      same c = bit_behind p.outside seen_at c (omega arith)

      wide : Flipped 256 (tables w₁) (tables w₂) a b
      wide = p.flipped

      flipped : Flipped m (tables w) (tables w₂) a b
      flipped = grind (arith, common_steps)

-- ---- the pass; `e` are the words at first

module _ {e w : List ℕ} {base m a : ℕ} (z : Sized e base m) (p : PairedIn e w base m a) where
  pub pair_asked : a < m → Sized w base m × Pairing m (Pairs base w) (tables w) a × (a < m)
  pair_asked al = (sized_kept p.outside.same_length z, pairing_within (forth z (omega arith) p.outside) p.pairing, al)

  -- the next item
  pub paired_more : {w' : List ℕ} → PairedIn w w' base m (a + 1) → PairedIn e w' base m (a + 1)
  paired_more q =
      record { outside = outside_then p.outside q.outside; pairing = pairing_within (back z (omega arith) p.outside) q.pairing }
