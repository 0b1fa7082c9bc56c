-- The whole search: from one item of the queue to the next, until one shows an item with none before it, or the queue ends.
use mathlib.Core.Path.{◌≡◌, refl, sym, ◌∙◌}
use mathlib.Core.List.{List}
use Prim.Native.Nat.{ℕ, ◌+◌, ◌≤◌, ◌<◌}
use native.Mathlib.Omega.{arith}
use lib.ListN.{set}
use lib.Seq.{get_or-set_same}
use Rattle.bits.specs.Work.{via_at, queue_at, seen_at, dead_at, Outside}
use Rattle.searching.specs.Items.{Matching, Searching}
use Rattle.searching.specs.State.{tables, deads, Pairs, Sized, Extendable, ShownIn, SearchedIn}
use Rattle.bits.proofs.Frames.{outside_then, outside_set, bit_stored}
use Rattle.searching.proofs.Deads.{dead_moved, dead_more}
use Rattle.searching.proofs.Frames.{dead_behind, next_before, prev_before}
use Rattle.searching.proofs.Relations.{Within, chains_none, searching_within, trail_within, flipping_within}
use Rattle.searching.proofs.Searches.{injective_le, search_start}
use Rattle.searching.proofs.Showing.{matching_kept, same_chains, sized_kept, forth, back}

-- the items before `head` have shown all; the words were `e` before the search
pub record Looking (e w : List ℕ) (base m a head tail : ℕ) : Type 0 where
  pub sized : Sized w base m
  pub outside : Outside via_at dead_at e w
  pub matching : Matching m (tables w)
  pub searching : Searching m (Pairs base w) (deads w) (tables w) head 0 tail
  pub source : (tables w).queue 0 ≡ a
  pub some : 0 < tail

module _ {e : List ℕ} {base m a : ℕ} (z : Extendable e base m a) where
  -- `a` is put into the queue
  pub looking_start : a < m → (tables e).next a ≡ 0 → Looking e (set e queue_at a) base m a 0 1
  looking_start al ending =
      record {
        sized = sized_kept queued.same_length z.sized;
        outside = queued;
        matching = matching_kept (omega arith) queued z.sized.items z.matching;
        searching =
            search_start a al (next_before queued (omega arith) a (omega (arith, z.sized.items)) ∙ ending) source
            (λ b bl.
            bit_stored e queue_at a seen_at b (λ f. absurd (omega arith))
            ∙ z.seen_dead b bl
            ∙ sym (dead_behind queued (omega arith) b))
            (λ b bl d.
            let f = dead_behind queued (omega arith) b in
            let g = prev_before queued (omega arith) b (omega (arith, z.sized.items)) in
            let h = z.dead.kept b bl (omega arith) in
            omega arith);
        source = source;
        some = omega arith;
      }
    where
      queued : Outside via_at dead_at e (set e queue_at a)
      queued = outside_set e queue_at a (omega arith) (omega arith)

      source : (tables (set e queue_at a)).queue 0 ≡ a
      source = get_or-set_same e queue_at a 0 (omega (arith, z.sized.long))

  module _ {w : List ℕ} {head tail : ℕ} (s : Looking e w base m a head tail) where
    -- the queue has ended
    pub looking_end : tail ≤ head → SearchedIn e w base m a m
    looking_end le =
        record {
          outside = s.outside;
          source = s.source;
          item_le = omega arith;
          exhausted =
              λ q.
              dead_moved (back z.sized (omega arith) s.outside) (forth z.sized (omega arith) s.outside)
              chains_none (λ b bl. refl)
              (dead_more
              (dead_moved (forth z.sized (omega arith) s.outside) (back z.sized (omega arith) s.outside)
              (same_chains (omega arith) s.outside m z.sized.items) (λ b bl. dead_behind s.outside (omega arith) b) z.dead)
              (rw same at s.searching) s.some s.source);
          found = λ l. absurd (omega arith);
        }
      where
        same : head ≡ tail
        same = omega (arith, s.searching.head_le)

    -- an item with none before it
    pub looking_found : {w' : List ℕ} {item tail' : ℕ} → ShownIn w w' base m head item tail' → item < m → SearchedIn e w' base m a item
    looking_found {w'} {item} {tail'} h l =
        record {
          outside = outside_then s.outside h.outside;
          source = h.source ∙ s.source;
          item_le = h.item_le;
          exhausted = λ q. absurd (omega arith);
          found =
              λ q.
              let (t, f) = h.found l in (
                tail',
                injective_le tail' m (tables w').queue t.queued t.different,
                trail_within to dead t,
                flipping_within to dead t f,
              );
        }
      where
        to : Within m (Pairs base w) (Pairs base e)
        to = back z.sized (omega arith) s.outside

        dead : (b : ℕ) → b < m → deads e b ≡ deads w b
        dead b bl = sym (dead_behind s.outside (omega arith) b)

    -- on to the next item of the queue
    pub looking_more : {w' : List ℕ} {tail' : ℕ} → ShownIn w w' base m head m tail' → Looking e w' base m a (head + 1) tail'
    looking_more {w'} {tail'} h =
        record {
          sized = sized_kept h.outside.same_length s.sized;
          outside = outside_then s.outside h.outside;
          matching = matching_kept (omega arith) h.outside s.sized.items s.matching;
          searching =
              searching_within (forth s.sized (omega arith) h.outside) (λ b bl. dead_behind h.outside (omega arith) b)
              (back s.sized (omega arith) h.outside) done;
          source = h.source ∙ s.source;
          some = omega (arith, done.head_le);
        }
      where
        done : Searching m (Pairs base w) (deads w) (tables w') (head + 1) 0 tail'
        done = h.done refl
