-- The items listed episode by episode, and what the tables say of them.
use mathlib.Core.Path.{◌≡◌, refl, sym, ap, ◌∙◌}
use mathlib.Core.Logic.{◌≢◌}
use mathlib.Core.Bool.{Bool, true, false, not}
use mathlib.Core.List.{List, []}
use Prim.Native.Nat.{ℕ, suc, ◌+◌, ◌≤◌, ◌<◌}
use native.Mathlib.Decide.{ℕ_discrete, dec_lt}
use native.Mathlib.Numerals.{add-one}
use native.Mathlib.Omega.{arith}
use borrow.Rule.Slice.PartMut.{mid_of, put_mid}
use mir.Val.{bool_byte}
use lib.Dec.{eqb}
use lib.ListN.{length, get_or, set, drop, length-set, length-drop}
use lib.Seq.{length-take-le, get_or-set_same, get_or-set_other}
use Rattle.std.specs.Prelude.{◌↔◌, IsTrue}
use Rattle.std.proofs.lemmas.Bool.{eqb-true, eq-eqb}
use Rattle.paths.specs.Graph.{Graph}
use Rattle.paths.specs.Items.{owners as owners_below}
use Rattle.paths.proofs.Items.{owners_same, owners_next, owner_below, items_one, owner_one}
use Rattle.bits.specs.Work.{voices_at, starts_at, owners_at, used_words, items_at, next_at, Outside}
use Rattle.bits.proofs.Parts.{put_length, put_before, put_behind, put_here}
use Rattle.bits.proofs.Frames.{outside_none, outside_then}
use Rattle.items.specs.Listed.{voices_in, start_in, owner_in, Listed}
use Rattle.items.specs.Pairing.{Added, Numbered, ListedAlike}
use Rattle.items.proofs.Owners.{Among, owners_fit, owner_before, owner_among, among_owner}

-- the items of the episodes below `v` are listed in `w'`, by the voices in `w`
pub record Listing (w w' : List ℕ) (v m : ℕ) : Type 0 where
  pub outside : Outside starts_at used_words w w'
  pub count : m ≡ length (owners_below (voices_in w) v)
  pub starts : (u : ℕ) → u < v → start_in w' u ≡ length (owners_below (voices_in w) u)
  pub owners : (x : ℕ) → x < m → owner_in w' x ≡ get_or (owners_below (voices_in w) v) x 0

pub listing_none : (w : List ℕ) → Listing w w 0 0
unfolding owners_below
listing_none w =
    record {
      outside = outside_none starts_at used_words w;
      count = refl;
      starts = λ u h. absurd (omega arith);
      owners = λ x h. absurd (omega arith);
    }

-- listing changes no voices, so there is room for the items of the next episode, and these are listed behind the others
module _ {w w' : List ℕ} {v m : ℕ} (s : Listing w w' v m) where
  pub listing_voices : (u : ℕ) → u < 256 → voices_in w' u ≡ voices_in w u
  listing_voices u h = s.outside.before (voices_at + u) (omega arith)

  module _ {n : ℕ} (few : n ≤ 256) (room : length (owners_below (voices_in w) n) < 256) (h : v < n) where
    pub listing_room : m + voices_in w' v ≤ 256
    listing_room = omega (arith, s.count, owners_fit (voices_in w) v n h, listing_voices v (omega arith))

    pub listing_more : {w'' : List ℕ} {r : ℕ} → Added w' w'' v m r → Listing w w'' (v + 1) r
    listing_more {w''} {r} a =
        record {
          outside =
              outside_then s.outside
              (record {
                same_length = a.same_length;
                before = λ i l. a.before i (omega arith) (λ e. absurd (omega arith));
                behind = λ i l. a.behind i (omega (arith, most));
              });
          count = rw add-one (total ∙ sym (owners_next (voices_in w) v));
          starts = λ u l. start u l (dec_lt u v);
          owners = λ x l. rw add-one (owner x l (dec_lt x m));
        }
      where
        total : r ≡ length (owners_below (voices_in w) v) + voices_in w v
        total = omega (arith, a.count, s.count, listing_voices v (omega arith))

        most : r ≤ 256
        most = omega (arith, total, owners_fit (voices_in w) v n h)

        start : (u : ℕ) → u < v + 1 → Dec (u < v) → start_in w'' u ≡ length (owners_below (voices_in w) u)
        start u l (yes b) = a.before (starts_at + u) (omega arith) (λ e. absurd (omega arith)) ∙ s.starts u b
        start u l (no b) = let e : u ≡ v = omega arith in rw e (a.start ∙ s.count)

        owner : (x : ℕ) → x < r → Dec (x < m) → owner_in w'' x ≡ get_or (owners_below (voices_in w) (suc v)) x 0
        owner x l (yes b) =
            a.before (owners_at + x) (omega arith) (λ e. absurd (omega arith)) ∙ s.owners x b
            ∙ sym (owner_before (voices_in w) v x (omega (arith, s.count)))
        owner x l (no b) =
            a.owners x (omega arith) l
            ∙ sym (among_owner (voices_in w) (suc v) v x (omega arith) (omega (arith, s.count), omega (arith, total))).1

-- at the end the voices in `w'` are those in `w`
pub listing_end : {w w' : List ℕ} {n m : ℕ} → used_words ≤ length w → n ≤ 256 → length (owners_below (voices_in w) n) < 256 → Listing w w' n m
    → Listed w' n m
listing_end {w} {w'} {n} long few room s =
    record {
      long = omega (arith, s.outside.same_length);
      few = few;
      few_items = omega (arith, s.count);
      count = s.count ∙ ap length (same n (omega arith));
      starts = λ v h. s.starts v h ∙ ap length (same v (omega arith));
      owners = λ x h. s.owners x h ∙ ap (λ (l : List ℕ). get_or l x 0) (same n (omega arith));
    }
  where
    same : (k : ℕ) → k ≤ n → owners_below (voices_in w) k ≡ owners_below (voices_in w') k
    same k h = owners_same (voices_in w) (voices_in w') k (λ v l. sym (listing_voices s v (omega arith)))

-- ---- one voice each

-- `others`, at most `v`, is 0 exactly where each of the episodes below `v` has one voice
pub record Counting (w : List ℕ) (v others : ℕ) : Type 0 where
  pub at_most : others ≤ v
  pub none : others ≡ 0 → (u : ℕ) → u < v → voices_in w u ≡ 1
  pub some : ((u : ℕ) → u < v → voices_in w u ≡ 1) → others ≡ 0

pub counting_none : (w : List ℕ) → Counting w 0 0
counting_none w = record { at_most = omega arith; none = λ e u h. absurd (omega arith); some = λ f. refl }

byte_none : (x : ℕ) → x ≡ 1 → bool_byte (not (eqb x 1)) ≡ 0
byte_none x e = rw (eq-eqb x 1 e) refl

byte_some : (x : ℕ) → x ≢ 1 → bool_byte (not (eqb x 1)) ≡ 1
byte_some x ne = go (eqb x 1) refl
  where
    go : (b : Bool) → b ≡ eqb x 1 → bool_byte (not b) ≡ 1
    go true e = absurd (ne (eqb-true x 1 (sym e)))
    go false e = refl

pub counting_more : {w : List ℕ} {v others : ℕ} → Counting w v others → Counting w (v + 1) (others + bool_byte (not (eqb (voices_in w v) 1)))
counting_more {w} {v} {others} s = go (ℕ_discrete (voices_in w v) 1)
  where
    go : Dec (voices_in w v ≡ 1) → Counting w (v + 1) (others + bool_byte (not (eqb (voices_in w v) 1)))
    go (yes e) =
        let byte = byte_none (voices_in w v) e in
        record {
          at_most = omega (arith, s.at_most, byte);
          none = λ z u h. one u h (ℕ_discrete u v) (s.none (omega (arith, byte)));
          some = λ f. omega (arith, byte, s.some (λ u h. f u (omega arith)));
        }
      where
        one : (u : ℕ) → u < v + 1 → Dec (u ≡ v) → ((u : ℕ) → u < v → voices_in w u ≡ 1) → voices_in w u ≡ 1
        one u h (yes f) below = rw f e
        one u h (no ne) below = below u (omega (arith, ne))
    go (no ne) =
        let byte = byte_some (voices_in w v) ne in
        record {
          at_most = omega (arith, s.at_most, byte);
          none = λ z. absurd (omega (arith, byte));
          some = λ f. absurd (ne (f v (omega arith)));
        }

pub counting_end : {w : List ℕ} {n v others : ℕ} → v ≤ n → n ≤ v → Counting w v others → IsTrue (eqb others 0) ↔ ((u : ℕ) → u < n → voices_in w u ≡ 1)
counting_end {w} {n} {v} {others} l h s =
    (λ t u k. s.none (eqb-true others 0 t) u (omega arith), λ f. eq-eqb others 0 (s.some (λ u k. f u (omega arith))))

-- the first `i` words of a table are the numbers of their places
pub record Numbering (v v' : List ℕ) (i : ℕ) : Type 0 where
  pub same_length : length v' ≡ length v
  pub words : (j : ℕ) → j < i → get_or v' j 0 ≡ j

pub numbering_none : (v : List ℕ) → Numbering v v 0
numbering_none v = record { same_length = refl; words = λ j h. absurd (omega arith) }

pub numbering_more : {v v' : List ℕ} {i : ℕ} → i < length v → Numbering v v' i → Numbering v (set v' i i) (i + 1)
numbering_more {v} {v'} {i} h s =
    record { same_length = length-set v' i i ∙ s.same_length; words = λ j l. word j l (ℕ_discrete j i) }
  where
    word : (j : ℕ) → j < i + 1 → Dec (j ≡ i) → get_or (set v' i i) j 0 ≡ j
    word j l (yes e) = rw e (get_or-set_same v' i i 0 (rw s.same_length h))
    word j l (no ne) = get_or-set_other v' i j i 0 ne ∙ s.words j (omega (arith, ne))

numbered_length : {p : List ℕ} (a k : ℕ) (w : List ℕ) → a + k ≤ length w → Numbered (mid_of a k w) p → length p ≡ k
numbered_length a k w fits s = s.same_length ∙ length-take-le k (drop a w) (omega (arith, length-drop a w))

-- the two tables, one after the other; `k` and `j` are `n` as the parts of the words have it
module _ (w : List ℕ) (p q : List ℕ) (n k j : ℕ) (ek : k ≡ n) (ej : j ≡ n) (long : used_words ≤ length w) (few : n ≤ 256)
    (ps : Numbered (mid_of starts_at k w) p) where
  abbrev started : List ℕ
  started = put_mid starts_at k w p

  np : length p ≡ k
  np = numbered_length starts_at k w (omega arith) ps

  size : length started ≡ length w
  size = put_length starts_at k w p (omega arith) np

  pub listed_alike : Numbered (mid_of owners_at j started) q → ListedAlike w (put_mid owners_at j started q) n
  listed_alike qs =
      record {
        outside =
            record {
              same_length = put_length owners_at j started q fits nq ∙ size;
              before = λ i h. put_before owners_at j started q fits nq i (omega arith) ∙ put_before starts_at k w p (omega arith) np i h;
              behind = λ i h. put_behind owners_at j started q fits nq i (omega arith) ∙ put_behind starts_at k w p (omega arith) np i (omega arith);
            };
        starts = λ v h.
            put_before owners_at j started q fits nq (starts_at + v) (omega arith) ∙ put_here starts_at k w p (omega arith) np v (omega arith)
            ∙ ps.words v (omega (arith, np, ps.same_length));
        owners = λ x h. put_here owners_at j started q fits nq x (omega arith) ∙ qs.words x (omega (arith, nq, qs.same_length));
      }
    where
      fits : owners_at + j ≤ length started
      fits = omega (arith, size)

      nq : length q ≡ j
      nq = numbered_length owners_at j started fits qs

-- items are then the episodes
pub alike_end : {w w' : List ℕ} {n : ℕ} → used_words ≤ length w → n ≤ 256 → length (owners_below (voices_in w) n) < 256
    → ((v : ℕ) → v < n → voices_in w v ≡ 1) → ListedAlike w w' n → Listed w' n n
alike_end {w} {w'} {n} long few room one s =
    record {
      long = omega (arith, s.outside.same_length);
      few = few;
      few_items = omega (arith, items_one (graph w n) one);
      count = sym (items_one (graph w' n) ones);
      starts = λ v h. s.starts v h ∙ sym (items_one (graph w' v) (λ u l. ones u (omega arith)));
      owners = λ x h. s.owners x h ∙ sym (owner_one (graph w' n) ones x h);
    }
  where
    graph : List ℕ → ℕ → Graph
    graph u k = record { n = k; links = []; voices = voices_in u }

    ones : (v : ℕ) → v < n → voices_in w' v ≡ 1
    ones v h = s.outside.before (voices_at + v) (omega arith) ∙ one v h

-- ---- the pairs

-- the tables stand behind the matrices
pub listed_kept : {w w' : List ℕ} {n m : ℕ} → Outside items_at next_at w w' → Listed w n m → Listed w' n m
listed_kept {w} {w'} {n} {m} o l =
    record {
      long = omega (arith, o.same_length, l.long);
      few = l.few;
      few_items = l.few_items;
      count = l.count ∙ ap length (same n);
      starts = λ v h. o.behind (starts_at + v) (omega arith) ∙ l.starts v h ∙ ap length (same v);
      owners = λ x h. o.behind (owners_at + x) (omega arith) ∙ l.owners x h ∙ ap (λ (q : List ℕ). get_or q x 0) (same n);
    }
  where
    same : (k : ℕ) → owners_below (voices_in w) k ≡ owners_below (voices_in w') k
    same k = owners_same (voices_in w) (voices_in w') k (λ v h. sym (o.behind (voices_at + v) (omega arith)))

-- ---- what the tables say

-- the item `x` is one of those of `b`, as the tables say
abbrev pub Stands : List ℕ → ℕ → ℕ → Type 0
Stands w b x = (start_in w b ≤ x) × (x < start_in w b + voices_in w b)

module _ {w : List ℕ} {n m : ℕ} (l : Listed w n m) where
  -- no item of an episode is missing
  pub items_fit : (b : ℕ) → b < n → start_in w b + voices_in w b ≤ m
  items_fit b h = omega (arith, l.count, l.starts b h, owners_fit (voices_in w) b n h)

  -- an item of `b` has `b` as its owner, and the other way round
  pub stands_owner : (b x : ℕ) → b < n → Stands w b x → (x < m) × (owner_in w x ≡ b)
  stands_owner b x h (lo, hi) =
      let (below, own) = among_owner (voices_in w) n b x h (omega (arith, l.starts b h), omega (arith, l.starts b h)) in
      let within : x < m = omega (arith, l.count) in
      (within, l.owners x within ∙ own)

  pub owner_lt : (x : ℕ) → x < m → owner_in w x < n
  owner_lt x h =
      let below = owner_below (record { n = n; links = []; voices = voices_in w }) x (omega (arith, l.count)) in
      omega (arith, l.owners x h)

  pub owner_stands : (b x : ℕ) → x < m → owner_in w x ≡ b → Stands w b x
  owner_stands b x h e = go (sym (l.owners x h) ∙ e) (owner_among (voices_in w) n x (omega (arith, l.count)))
    where
      below : b < n
      below = omega (arith, owner_lt x h)

      go : get_or (owners_below (voices_in w) n) x 0 ≡ b → Among (voices_in w) (get_or (owners_below (voices_in w) n) x 0) x → Stands w b x
      go f among =
          let (lo, hi) = rw f at among in
          (omega (arith, l.starts b below), omega (arith, l.starts b below))
