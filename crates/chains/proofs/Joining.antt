-- As few chains as can be, by a search from each item that ends a chain, after the first pairs.
use mathlib.Core.Path.{◌≡◌, refl, subst}
use mathlib.Core.Logic.{⊎_elim}
use mathlib.Core.List.{List}
use Prim.Native.Nat.{ℕ, ◌+◌, ◌<◌}
use native.Mathlib.Omega.{arith}
use Rattle.bits.specs.Work.{next_at, Outside, none_at}
use Rattle.bits.proofs.Frames.{outside_then}
use Rattle.searching.specs.Items.{Dead}
use Rattle.searching.specs.State.{tables, deads, Pairs, Sized, Extendable}
use Rattle.chains.specs.Joined.{PairedIn, ExtendedIn, Chained, JoinedIn}
use Rattle.searching.proofs.Deads.{dead_moved, dead_exhausted}
use Rattle.searching.proofs.Relations.{chains_none, exhausted_within}
use Rattle.searching.proofs.Searches.{matching_same}
use Rattle.searching.proofs.Showing.{sized_kept, forth, back}

-- after the first pairs
module _ {w w' : List ℕ} {base m : ℕ} (z : Sized w base m) (p : PairedIn w w' base m m) where
  pub chained_pairs : Chained w' base m
  chained_pairs =
      record {
        sized = sized_kept p.outside.same_length z;
        matching = p.pairing.matching;
        pairs = λ a b al bl h. forth z (omega arith) p.outside a b al bl (p.pairing.pairs a b al bl h);
      }

  -- seen from the words before them
  pub joined_from : {w'' : List ℕ} → JoinedIn w' w'' base m → JoinedIn w w'' base m
  joined_from j =
      record {
        outside = outside_then p.outside j.outside;
        matching = j.matching;
        pairs = λ a b al bl h. back z (omega arith) p.outside a b al bl (j.pairs a b al bl h);
        exhausted = exhausted_within (back z (omega arith) p.outside) (forth z (omega arith) p.outside) j.exhausted;
      }

-- the items below `a` have been searched from, and the chains are of pairs of the matrix; the words were `w₀`
pub record Joining (w₀ w : List ℕ) (base m a : ℕ) : Type 0 where
  pub outside : Outside next_at none_at w₀ w
  pub extendable : Extendable w base m a
  pub pairs : (x b : ℕ) → x < m → b < m → (tables w).next x ≡ b + 1 → Pairs base w₀ x b

module _ {w₀ : List ℕ} {base m : ℕ} (z : Chained w₀ base m) where
  module _ {w : List ℕ} {a : ℕ} (s : Joining w₀ w base m a) where
    -- the search from `a`
    pub joining_more : {w' : List ℕ} → ExtendedIn w w' base m a → Joining w₀ w' base m (a + 1)
    joining_more h =
        record {
          outside = outside_then s.outside h.outside;
          extendable =
              record {
                sized = sized_kept h.outside.same_length x.sized;
                matching = ⊎_elim (λ k. matching_same x.matching k) (λ k. k.matching) h.change;
                seen_dead = h.seen_dead;
                dead =
                    dead_moved (forth x.sized (omega arith) h.outside) (back x.sized (omega arith) h.outside) chains_none
                    (λ b bl. refl) h.dead;
              };
          pairs =
              λ y b yl bl e.
              ⊎_elim (λ k. s.pairs y b yl bl (let f = k.next_same y yl in omega arith))
              (λ k. ⊎_elim (s.pairs y b yl bl) (back z.sized (omega arith) s.outside y b yl bl) (k.pairs y b yl bl e)) h.change;
        }
      where
        x : Extendable w base m a
        x = s.extendable

    -- all have been searched from
    pub joining_end : a ≡ m → JoinedIn w₀ w base m
    joining_end all =
        record {
          outside = s.outside;
          matching = s.extendable.matching;
          pairs = s.pairs;
          exhausted =
              exhausted_within (back z.sized (omega arith) s.outside) (forth z.sized (omega arith) s.outside)
              (dead_exhausted (subst (λ (k : ℕ). Dead m (Pairs base w) (tables w) (deads w) k) all s.extendable.dead)
              s.extendable.seen_dead);
        }
