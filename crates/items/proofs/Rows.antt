-- The masks of the episodes, bit by bit, and the row of an episode's items: the masks of those that it has a way to, word by word of its ways.
use mathlib.Core.Path.{◌≡◌, refl, sym, ap, ◌∙◌}
use mathlib.Core.Logic.{◌≢◌, ⊎_elim}
use mathlib.Core.List.{List}
use Prim.Native.Nat.{ℕ, ◌+◌, ◌-◌, ◌*◌, ◌/◌, ◌≤◌, ◌<◌}
use native.Mathlib.Decide.{ℕ_discrete, dec_lt}
use native.Mathlib.Omega.{arith}
use lib.ListN.{get_or, replicate, get_or-replicate}
use Rattle.bits.specs.Bits.{digit, bit, BitSet, RowsAdded}
use Rattle.bits.specs.Work.{ways_at, items_at, next_at, matrix_words, Outside}
use Rattle.bits.proofs.Rows.{bit_lt, bits_zero, bit_digit}
use Rattle.bits.proofs.Frames.{outside_none, outside_then, set_outside, row_other}
use Rattle.items.specs.Listed.{voices_in, start_in, owner_in, Listed}
use Rattle.items.specs.Pairing.{BitsSet, HasMasks, Ready, HoldsItems}
use Rattle.items.proofs.Listing.{stands_owner, owner_stands, owner_lt}

-- ---- bits one behind the other

pub set_none : (v : List ℕ) (row lo : ℕ) → BitsSet v v row lo lo
set_none v row lo =
    record { outside = outside_none row (row + 8) v; marked = λ y l h. absurd (omega arith); before = λ y h. refl; behind = λ y h. refl }

pub set_more : {v v' v'' : List ℕ} {row lo x : ℕ} → lo ≤ x → x < 256 → BitsSet v v' row lo x → BitSet v' v'' row x → BitsSet v v'' row lo (x + 1)
set_more {v'' = v''} {row} {lo} {x} le few s b =
    record {
      outside = outside_then s.outside (set_outside row x few b);
      marked = λ y l h. marked y l h (ℕ_discrete y x);
      before = λ y h. b.others y (λ e. absurd (omega arith)) ∙ s.before y h;
      behind = λ y h. b.others y (λ e. absurd (omega arith)) ∙ s.behind y (omega arith);
    }
  where
    marked : (y : ℕ) → lo ≤ y → y < x + 1 → Dec (y ≡ x) → bit v'' row y ≡ 1
    marked y l h (yes e) = rw e b.here
    marked y l h (no ne) = b.others y ne ∙ s.marked y l (omega (arith, ne))

-- ---- the masks

-- those of the episodes below `k` are made, the others are zero
pub record Marked (w : List ℕ) (k m : ℕ) (v : List ℕ) : Type 0 where
  pub masks : HasMasks w k m v
  pub zeros : (b y : ℕ) → k ≤ b → b < 256 → y < 256 → bit v (8 * b) y ≡ 0

pub marked_none : (w : List ℕ) (m : ℕ) (v : List ℕ) → v ≡ replicate matrix_words 0 → Marked w 0 m v
marked_none w m v e =
    record {
      masks = record { own = λ b y h. absurd (omega arith); others = λ b y h. absurd (omega arith) };
      zeros = λ b y lo hb hy. bits_zero v (8 * b) y (rw e (get_or-replicate matrix_words (8 * b + y / 32) 0 0 (omega arith)));
    }

module _ {w v v' : List ℕ} {n m k : ℕ} (l : Listed w n m) (h : k < n) (s : Marked w k m v)
    (set : BitsSet v v' (8 * k) (start_in w k) (start_in w k + voices_in w k)) where
  -- the other masks stay as they are
  other : (b y : ℕ) → y < 256 → b ≢ k → bit v' (8 * b) y ≡ bit v (8 * b) y
  other b y hy ne =
      let row : 0 + 8 * k ≡ 8 * k = omega arith in
      let at : 0 + 8 * b ≡ 8 * b = omega arith in
      let out : Outside (0 + 8 * k) (0 + 8 * k + 8) v v' = rw row set.outside in
      rw at at (row_other 0 k out b y hy ne)

  -- so do the bits of the items of others
  apart : (y : ℕ) → y < m → owner_in w y ≢ k → bit v' (8 * k) y ≡ bit v (8 * k) y
  apart y hy ne = go (dec_lt y (start_in w k)) (dec_lt y (start_in w k + voices_in w k))
    where
      go : Dec (y < start_in w k) → Dec (y < start_in w k + voices_in w k) → bit v' (8 * k) y ≡ bit v (8 * k) y
      go (yes a) d = set.before y a
      go (no a) (no b) = set.behind y (omega arith)
      go (no a) (yes b) = absurd (ne (stands_owner l k y h (omega arith, b)).1)

  pub marked_more : Marked w (k + 1) m v'
  marked_more =
      record {
        masks =
            record {
              own = λ b y hb hy e. own b y hb hy e (ℕ_discrete b k);
              others = λ b y hb hy ne. others b y hb hy ne (ℕ_discrete b k);
            };
        zeros = λ b y lo hb hy. other b y hy (λ e. absurd (omega arith)) ∙ s.zeros b y (omega arith) hb hy;
      }
    where
      few : m < 256
      few = l.few_items

      own : (b y : ℕ) → b < k + 1 → y < m → owner_in w y ≡ b → Dec (b ≡ k) → bit v' (8 * b) y ≡ 1
      own b y hb hy e (yes f) =
          let (lo, hi) = owner_stands l k y hy (e ∙ f) in
          rw f (set.marked y lo hi)
      own b y hb hy e (no ne) = other b y (omega arith) ne ∙ s.masks.own b y (omega (arith, ne)) hy e

      others : (b y : ℕ) → b < k + 1 → y < m → owner_in w y ≢ b → Dec (b ≡ k) → bit v' (8 * b) y ≡ 0
      others b y hb hy ne (yes f) =
          let far : n ≤ 256 = l.few in
          rw f (apart y hy (λ e. ne (e ∙ sym f)) ∙ s.zeros k y (omega arith) (omega arith) (omega arith))
      others b y hb hy ne (no d) = other b y (omega arith) d ∙ s.masks.others b y (omega (arith, d)) hy ne

pub marked_end : {w v : List ℕ} {n m k : ℕ} → n ≤ k → Marked w k m v → HasMasks w n m v
marked_end h s =
    record { own = λ b y hb hy e. s.masks.own b y (omega arith) hy e; others = λ b y hb hy ne. s.masks.others b y (omega arith) hy ne }

-- a change of the pairs leaves the owners as they were
pub masks_kept : {w w' v : List ℕ} {n m : ℕ} → Outside items_at next_at w w' → HasMasks w n m v → HasMasks w' n m v
masks_kept {w} {w'} o s =
    record {
      own = λ b y hb hy e. s.own b y hb hy (sym (same y) ∙ e);
      others = λ b y hb hy ne. s.others b y hb hy (λ e. ne (same y ∙ e));
    }
  where
    same : (y : ℕ) → owner_in w' y ≡ owner_in w y
    same y = o.behind _ (omega arith)

-- ---- the row

-- in the row of bits `v` stand the items of those that `a` has a way to, of the episodes in the first `i` words
pub record Collecting (w u : List ℕ) (a : ℕ) (v : List ℕ) (i : ℕ) : Type 0 where
  pub sound : (n m y : ℕ) → Ready w u n m a → y < m → bit v 0 y ≡ 1 → (owner_in w y < 32 * i) × (bit w (ways_at + 8 * a) (owner_in w y) ≡ 1)
  pub complete : (n m y : ℕ) → Ready w u n m a → y < m → owner_in w y < 32 * i → bit w (ways_at + 8 * a) (owner_in w y) ≡ 1 → bit v 0 y ≡ 1

pub collect_none : (w u : List ℕ) (a : ℕ) (v : List ℕ) → ((i : ℕ) → i < 8 → get_or v i 0 ≡ 0) → Collecting w u a v 0
collect_none w u a v zeros =
    record {
      sound = λ n m y q h o.
          let few = q.listed.few_items in
          let z = bits_zero v 0 y (zeros _ (omega arith)) in
          absurd (omega arith);
      complete = λ n m y q h l. absurd (omega arith);
    }

-- the masks that the digits of one more word name are joined
module _ {w u v v' : List ℕ} {a i x : ℕ} (hi : i < 8) (c : Collecting w u a v i) (word : x ≡ get_or w (ways_at + 8 * a + i) 0)
    (q : RowsAdded u (256 * i) x v v') where
  -- a digit is one where there is a way
  way_digit : (j : ℕ) → j < 32 → bit w (ways_at + 8 * a) (32 * i + j) ≡ digit x j
  way_digit j h = bit_digit w (ways_at + 8 * a) i j h ∙ ap (λ (z : ℕ). digit z j) (sym word)

  -- the mask of the episode that it names
  mask_of : (j y : ℕ) → bit u (256 * i + 8 * j) y ≡ bit u (8 * (32 * i + j)) y
  mask_of j y = ap (λ (row : ℕ). bit u row y) (omega arith)

  -- an item in that mask is one of that episode
  named : (n m j y : ℕ) → Ready w u n m a → j < 32 → y < m → digit x j ≡ 1 → bit u (256 * i + 8 * j) y ≡ 1 → owner_in w y ≡ 32 * i + j
  named n m j y r hj h d o = go (ℕ_discrete (owner_in w y) (32 * i + j))
    where
      below : 32 * i + j < n
      below = r.ways a (32 * i + j) r.episode (omega arith) (way_digit j hj ∙ d)

      go : Dec (owner_in w y ≡ 32 * i + j) → owner_in w y ≡ 32 * i + j
      go (yes e) = e
      go (no ne) =
          let z = r.masks.others (32 * i + j) y below h ne in
          absurd (omega (arith, mask_of j y))

  pub collect_more : Collecting w u a v' (i + 1)
  collect_more =
      record {
        sound = λ n m y r h o.
            let few = r.listed.few_items in
            ⊎_elim (λ e. let (l, s) = c.sound n m y r h e in (omega arith, s))
            (λ (j, hj, d, k).
            let own = named n m j y r hj h d k in
            (omega arith, rw own (way_digit j hj ∙ d)))
            (q.no_other y (omega arith) o);
        complete = λ n m y r h l o. complete n m y r h l o (dec_lt (owner_in w y) (32 * i));
      }
    where
      complete : (n m y : ℕ) → Ready w u n m a → y < m → owner_in w y < 32 * (i + 1) → bit w (ways_at + 8 * a) (owner_in w y) ≡ 1
          → Dec (owner_in w y < 32 * i) → bit v' 0 y ≡ 1
      complete n m y r h l o (yes b) = let few = r.listed.few_items in q.old y (omega arith) (c.complete n m y r h b o)
      complete n m y r h l o (no b) =
          let few = r.listed.few_items in
          let j : ℕ = owner_in w y - 32 * i in
          let place : 32 * i + j ≡ owner_in w y = omega arith in
          q.new j y (omega arith) (omega arith) (sym (way_digit j (omega arith)) ∙ rw place o)
          (mask_of j y ∙ rw place (r.masks.own (owner_in w y) y (owner_lt r.listed y h) h refl))

pub collect_end : {w u v : List ℕ} {a i : ℕ} → 8 ≤ i → Collecting w u a v i → {n m : ℕ} → Ready w u n m a → HoldsItems w m a v
collect_end {w} {u} {v} {a} {i} eight c {n} {m} r y h = go (ℕ_discrete (bit v 0 y) 1) (ℕ_discrete (bit w (ways_at + 8 * a) (owner_in w y)) 1)
  where
    go : Dec (bit v 0 y ≡ 1) → Dec (bit w (ways_at + 8 * a) (owner_in w y) ≡ 1) → bit v 0 y ≡ bit w (ways_at + 8 * a) (owner_in w y)
    go (yes e) d = e ∙ sym (c.sound n m y r h e).1
    go (no ne) (yes e) = absurd (ne (c.complete n m y r h (omega (arith, owner_lt r.listed y h, r.listed.few)) e))
    go (no ne) (no nf) = omega (arith, ne, nf, bit_lt v 0 y, bit_lt w (ways_at + 8 * a) (owner_in w y))
