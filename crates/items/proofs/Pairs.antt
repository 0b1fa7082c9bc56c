-- The pairs of items: those of the items of one episode, then episode by episode; and where each episode has one voice the ways, copied.
use mathlib.Core.Path.{◌≡◌, sym, ap, ◌∙◌}
use mathlib.Core.Logic.{◌≢◌}
use mathlib.Core.List.{List, []}
use Prim.Native.Nat.{ℕ, ◌+◌, ◌*◌, ◌≤◌, ◌<◌}
use native.Mathlib.Decide.{ℕ_discrete, dec_lt}
use native.Mathlib.Omega.{arith}
use borrow.Rule.Slice.PartMut.{put_mid}
use lib.ListN.{length}
use Rattle.paths.specs.Graph.{Graph}
use Rattle.paths.proofs.Items.{items_one, owner_one}
use Rattle.bits.specs.Bits.{bit}
use Rattle.bits.specs.Work.{ways_at, items_at, next_at, voices_at, Outside, MatrixCopied}
use Rattle.bits.proofs.Parts.{put_length, put_before, put_behind, bit_put}
use Rattle.bits.proofs.Frames.{outside_none, outside_then, outside_wider, bit_before, bit_behind, bit_moved, row_other}
use Rattle.items.specs.Listed.{voices_in, start_in, owner_in, Listed, WaysBelow, PairsIn}
use Rattle.items.specs.Pairing.{WaysCopied, HasMasks, Ready, HoldsItems, ItemsPaired}
use Rattle.items.proofs.Listing.{listed_kept, items_fit, owner_lt, owner_stands, stands_owner}
use Rattle.items.proofs.Rows.{masks_kept}

-- ---- the items of one episode

-- the rows of the items from `start` on and before `x` are the row of bits `v`
pub record RowsPut (w w' v : List ℕ) (start x : ℕ) : Type 0 where
  pub outside : Outside (items_at + 8 * start) (items_at + 8 * x) w w'
  pub rows : (y b : ℕ) → start ≤ y → y < x → b < 256 → bit w' (items_at + 8 * y) b ≡ bit v 0 b

pub rows_none : (w v : List ℕ) (start : ℕ) → RowsPut w w v start start
rows_none w v start =
    record { outside = outside_none (items_at + 8 * start) (items_at + 8 * start) w; rows = λ y b l h k. absurd (omega arith) }

-- `k` is 8 where a row is put in place
pub rows_more : {w w' v : List ℕ} {start x : ℕ} (k : ℕ) → k ≡ 8 → length v ≡ 8 → start ≤ x → x < 256 → next_at ≤ length w' → RowsPut w w' v start x
    → RowsPut w (put_mid (items_at + 8 * x) k w' v) v start (x + 1)
rows_more {w} {w'} {v} {start} {x} k eight many le hx long s =
    record {
      outside =
          outside_then (outside_wider (omega arith) (omega arith) s.outside)
          (outside_wider {hi' = items_at + 8 * (x + 1)} (omega arith) (omega arith) here);
      rows = λ y b l h k. rows y b l h k (ℕ_discrete y x);
    }
  where
    same : length v ≡ k
    same = omega arith

    here : Outside (items_at + 8 * x) (items_at + 8 * x + 8) w' (put_mid (items_at + 8 * x) k w' v)
    here =
        record {
          same_length = put_length (items_at + 8 * x) k w' v (omega arith) same;
          before = put_before (items_at + 8 * x) k w' v (omega arith) same;
          behind = λ i h. put_behind (items_at + 8 * x) k w' v (omega arith) same i (omega arith);
        }

    rows : (y b : ℕ) → start ≤ y → y < x + 1 → b < 256 → Dec (y ≡ x) → bit (put_mid (items_at + 8 * x) k w' v) (items_at + 8 * y) b ≡ bit v 0 b
    rows y b l h hb (yes e) = rw e (bit_put w' k eight (items_at + 8 * x) v (omega arith) same b hb)
    rows y b l h hb (no ne) = row_other items_at x here y b hb ne ∙ s.rows y b l (omega (arith, ne)) hb

pub rows_end : {w w' v u : List ℕ} {n m a x : ℕ} → Ready w u n m a → HoldsItems w m a v → x ≡ start_in w a + voices_in w a → RowsPut w w' v (start_in w a) x
    → ItemsPaired w w' m a
rows_end {w} {w'} {v} {u} {n} {m} {a} {x} q held e s =
    let few = q.listed.few_items in
    let fit = items_fit q.listed a q.episode in
    record {
      outside = outside_wider (omega arith) (omega arith) s.outside;
      here = λ y z h k own.
          let (lo, hi) = owner_stands q.listed a y h own in
          s.rows y z lo (omega arith) (omega arith) ∙ held z k;
      others = λ y z h k ne. other y z h (omega arith) ne (dec_lt y (start_in w a)) (dec_lt y x);
    }
  where
    other : (y z : ℕ) → y < m → z < 256 → owner_in w y ≢ a → Dec (y < start_in w a) → Dec (y < x)
        → bit w' (items_at + 8 * y) z ≡ bit w (items_at + 8 * y) z
    other y z h hz ne (yes l) d = bit_before s.outside (items_at + 8 * y) z (omega arith) hz
    other y z h hz ne (no l) (no r) = bit_behind s.outside (items_at + 8 * y) z (omega arith)
    other y z h hz ne (no l) (yes r) = absurd (ne (stands_owner q.listed a y q.episode (omega arith, omega arith)).1)

-- ---- episode by episode

-- the items of the episodes below `a` have their rows
pub record PairedTo (w w' : List ℕ) (m a : ℕ) : Type 0 where
  pub outside : Outside items_at next_at w w'
  pub pairs : (x y : ℕ) → x < m → y < m → owner_in w x < a → bit w' (items_at + 8 * x) y ≡ bit w (ways_at + 8 * owner_in w x) (owner_in w y)

pub paired_none : (w : List ℕ) (m : ℕ) → PairedTo w w m 0
paired_none w m = record { outside = outside_none items_at next_at w; pairs = λ x y h k l. absurd (omega arith) }

module _ {w w' : List ℕ} {n m a : ℕ} (l : Listed w n m) (s : PairedTo w w' m a) where
  pub paired_ready : {u : List ℕ} → HasMasks w n m u → WaysBelow w n → a < n → Ready w' u n m a
  paired_ready masks ways h =
      record {
        listed = listed_kept s.outside l;
        masks = masks_kept s.outside masks;
        ways = λ x b hx hb o.
            let few = l.few in
            ways x b hx hb (sym (bit_before s.outside (ways_at + 8 * x) b (omega arith) hb) ∙ o);
        episode = h;
      }

  -- an episode without voices has no item
  pub paired_skip : voices_in w' a ≡ 0 → PairedTo w w' m (a + 1)
  paired_skip none =
      record {
        outside = s.outside;
        pairs = λ x y h k b. go x y h k b (ℕ_discrete (owner_in w x) a);
      }
    where
      go : (x y : ℕ) → x < m → y < m → owner_in w x < a + 1 → Dec (owner_in w x ≡ a)
          → bit w' (items_at + 8 * x) y ≡ bit w (ways_at + 8 * owner_in w x) (owner_in w y)
      go x y h k b (no ne) = s.pairs x y h k (omega (arith, ne))
      go x y h k b (yes e) =
          let (lo, hi) = owner_stands l a x h e in
          absurd (omega (arith, s.outside.behind (voices_at + a) (omega arith)))

  pub paired_more : {w'' : List ℕ} → ItemsPaired w' w'' m a → PairedTo w w'' m (a + 1)
  paired_more {w''} p =
      record {
        outside = outside_then s.outside p.outside;
        pairs = λ x y h k b. go x y h k b (ℕ_discrete (owner_in w x) a);
      }
    where
      own : (x : ℕ) → owner_in w' x ≡ owner_in w x
      own x = s.outside.behind _ (omega arith)

      go : (x y : ℕ) → x < m → y < m → owner_in w x < a + 1 → Dec (owner_in w x ≡ a)
          → bit w'' (items_at + 8 * x) y ≡ bit w (ways_at + 8 * owner_in w x) (owner_in w y)
      go x y h k b (no ne) = p.others x y h k (λ e. ne (sym (own x) ∙ e)) ∙ s.pairs x y h k (omega (arith, ne))
      go x y h k b (yes e) =
          let few = l.few in
          let hx = owner_lt l x h in
          let hy = owner_lt l y k in
          p.here x y h k (own x ∙ e) ∙ ap (λ (z : ℕ). bit w' (ways_at + 8 * a) z) (own y)
          ∙ bit_before s.outside (ways_at + 8 * a) (owner_in w y) (omega arith) (omega arith)
          ∙ ap (λ (z : ℕ). bit w (ways_at + 8 * z) (owner_in w y)) (sym e)

  pub paired_end : n ≤ a → PairsIn w w' m
  paired_end h = record { outside = s.outside; pairs = λ x y p q. s.pairs x y p q (omega (arith, owner_lt l x p)) }

-- ---- one voice each

pub ways_copied : {w w' : List ℕ} → MatrixCopied w w' ways_at items_at → WaysCopied w w'
ways_copied c = record { outside = c.outside; words = c.words }

-- items are then the episodes
pub copied_pairs : {w w' : List ℕ} {n m : ℕ} → Listed w n m → ((v : ℕ) → v < n → voices_in w v ≡ 1) → WaysCopied w w' → PairsIn w w' m
copied_pairs {w} {w'} {n} {m} l one c = record { outside = c.outside; pairs = λ x y h k. pairs x y h k }
  where
    g : Graph
    g = record { n = n; links = []; voices = voices_in w }

    many : m ≡ n
    many = l.count ∙ items_one g one

    own : (x : ℕ) → x < m → owner_in w x ≡ x
    own x h = l.owners x h ∙ owner_one g one x (omega (arith, many))

    pairs : (x y : ℕ) → x < m → y < m → bit w' (items_at + 8 * x) y ≡ bit w (ways_at + 8 * owner_in w x) (owner_in w y)
    pairs x y h k =
        let few = l.few_items in
        rw (own x h, own y k) (bit_moved w w' ways_at items_at c.words x y (omega arith) (omega arith))
