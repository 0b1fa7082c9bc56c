-- Links that rise: the ways from one episode, of those from the episodes above it; and so from the last episode to the first.
use mathlib.Core.Path.{◌≡◌, refl, sym, subst, ◌∙◌}
use mathlib.Core.Logic.{◌⊎◌, inl, inr}
use mathlib.Core.List.{List}
use Prim.Native.Nat.{ℕ, ◌+◌, ◌-◌, ◌*◌, ◌/◌, ◌≤◌, ◌<◌}
use native.Mathlib.Decide.{ℕ_discrete, dec_lt}
use native.Mathlib.Omega.{arith}
use borrow.Rule.Slice.PartMut.{put_mid}
use lib.ListN.{length}
use Rattle.paths.specs.Graph.{Graph, EndsBelow, Link, Way, one, step}
use Rattle.paths.proofs.Ways.{way_trans, way_first}
use mathlib.Core.Bool.{Bool, true, false, true≢false}
use Rattle.std.specs.Bool.{MatchBool}
use Rattle.std.specs.List.{AllWithin, HoldsAt, range_with_len}
use Rattle.std.proofs.lemmas.List.FromFn.{length-range_with_len, get_or-range_with_len}
use Rattle.bits.specs.Bits.{bit, BitSet, RowJoined, RowLess, NextNew}
use Rattle.bits.specs.Work.{links_at, ways_at, Matrix, Outside, items_at}
use Rattle.bits.proofs.Rows.{bit_lt, bits_zero, bit_less, new_bit}
use Rattle.bits.proofs.Parts.{put_length, put_before, put_behind, bit_put}
use Rattle.bits.proofs.Frames.{outside_none, outside_then, outside_wider, set_outside, joined_outside}
use Rattle.bits.proofs.Frames.{bit_before, matrix_before, row_other}
use Rattle.rising.specs.Rising.{NoWays, RowTest, RiseTest, LinksRise, WayFrom, EndsTaken, LinkedFrom, RowReached, LinkNoted, RisingReached}

-- ---- whether links rise

-- the first `n` rows rise where each of them does
pub rise_test : {w : List ℕ} {n : ℕ} (r : Bool)
    → MatchBool r (AllWithin (λ a. RowTest w a true) (range_with_len 0 n) 0 (length (range_with_len 0 n)))
    ((k : ℕ) × (k < length (range_with_len 0 n)) × HoldsAt (λ a. RowTest w a false) (range_with_len 0 n) k) → RiseTest w n r
rise_test {w} {n} true rows =
    record {
      all = λ e a b ha hb o. (row a ha).all refl b hb o;
      not_all = λ e. absurd (true≢false e);
    }
  where
    row : (a : ℕ) → a < n → RowTest w a true
    row a h =
        subst (λ (k : ℕ). RowTest w k true) (get_or-range_with_len 0 n a 0 h ∙ omega arith)
        (rows a 0 (omega arith) (omega (arith, length-range_with_len 0 n)))
rise_test {w} {n} false (k, h, row) =
    let below : k < n = omega (arith, length-range_with_len 0 n) in
    let here : RowTest w k false = subst (λ (a : ℕ). RowTest w a false) (get_or-range_with_len 0 n k 0 below ∙ omega arith) (row 0) in
    let (b, hb, o, falls) = here.not_all refl in
    record { all = λ e. absurd (true≢false (sym e)); not_all = λ e rise. let lo = rise k b below hb o in omega arith }

-- ---- the ways from one episode, without code

-- `S` has the links of `a` below `b`, and the ways from each of its own; it has ways from `a` only
pub record Reaching (g : Graph) (S : ℕ → Type 0) (a b : ℕ) : Type 0 where
  pub sound : (c : ℕ) → c < 256 → S c → Way g a c
  pub links : (c : ℕ) → c < b → c < 256 → Link g a c → S c
  pub closed : (c d : ℕ) → c < 256 → d < 256 → S c → Way g c d → S d

-- `S'` is `S`, `b`, and the ways from `b`
record Joined (g : Graph) (S S' : ℕ → Type 0) (b : ℕ) : Type 0 where
  pub old : (c : ℕ) → c < 256 → S c → S' c
  pub here : S' b
  pub ways : (c : ℕ) → c < 256 → Way g b c → S' c
  pub no_other : (c : ℕ) → c < 256 → S' c → S c ⊎ (c ≡ b) ⊎ Way g b c

-- `b` is a link of `a`, and those between `b` and `b'` are had
reaching_on : {g : Graph} {S S' : ℕ → Type 0} {a b : ℕ} (b' : ℕ) → Reaching g S a b → Link g a b → Joined g S S' b
    → ((c : ℕ) → b < c → c < b' → c < 256 → Link g a c → S' c) → Reaching g S' a b'
reaching_on {g} {S} {S'} {a} {b} b' r l j between =
    record {
      sound = λ c hc s. sound c hc (j.no_other c hc s);
      links = λ c h hc k. links c h hc k (dec_lt c b) (ℕ_discrete c b);
      closed = λ c d hc hd s w. closed c d hc hd w (j.no_other c hc s);
    }
  where
    sound : (c : ℕ) → c < 256 → S c ⊎ (c ≡ b) ⊎ Way g b c → Way g a c
    sound c hc (inl s) = r.sound c hc s
    sound c hc (inr (inl e)) = rw e (one l)
    sound c hc (inr (inr w)) = step l w

    links : (c : ℕ) → c < b' → c < 256 → Link g a c → Dec (c < b) → Dec (c ≡ b) → S' c
    links c h hc k (yes q) d = j.old c hc (r.links c q hc k)
    links c h hc k (no q) (yes e) = rw e j.here
    links c h hc k (no q) (no ne) = between c (omega (arith, ne)) h hc k

    closed : (c d : ℕ) → c < 256 → d < 256 → Way g c d → S c ⊎ (c ≡ b) ⊎ Way g b c → S' d
    closed c d hc hd w (inl s) = j.old d hd (r.closed c d hc hd s w)
    closed c d hc hd w (inr (inl e)) = j.ways d hd (rw e at w)
    closed c d hc hd w (inr (inr v)) = j.ways d hd (way_trans b c d v w)

-- with all links had, all ways are
reaching_end : {g : Graph} {S : ℕ → Type 0} {a b : ℕ} → LinksRise g → 256 ≤ b → Reaching g S a b → (c : ℕ) → c < 256 → Way g a c → S c
reaching_end rise h r c hc (one l) = r.links c (omega arith) hc l
reaching_end rise h r c hc (step {a = a} {b = d} l w) =
    let hd : d < 256 = (rise a d l).1 in
    r.closed d c hd hc (r.links d (omega arith) hd l) w

-- ---- links to episodes without links

-- `ends` has the links of `a` to those that are not in `linked`; `k` is 8 where they are put in place of a row
pub ends_taken : {w linked ends : List ℕ} {a links ways : ℕ} (k : ℕ) → k ≡ 8 → RowLess w links linked ends → ways + 8 ≤ length w
    → links ≡ links_at + 8 * a → ways ≡ ways_at + 8 * a → EndsTaken w (put_mid ways k w ends) a linked
ends_taken {w} {linked} {ends} {a} {links} {ways} k eight s fits p q =
    record {
      outside = rw (← q) out;
      sound = λ c hc o. new_bit w linked (links_at + 8 * a) 0 c (sym (bits c hc) ∙ o);
      complete = λ c hc o z. omega (arith, bits c hc);
    }
  where
    many : length ends ≡ k
    many = s.eight ∙ sym eight

    out : Outside ways (ways + 8) w (put_mid ways k w ends)
    out =
        record {
          same_length = put_length ways k w ends (omega arith) many;
          before = put_before ways k w ends (omega arith) many;
          behind = λ i h. put_behind ways k w ends (omega arith) many i (omega arith);
        }

    bits : (c : ℕ) → c < 256 → bit (put_mid ways k w ends) (ways_at + 8 * a) c ≡ bit w (links_at + 8 * a) c - bit linked 0 c
    bits c hc = rw (← q) (bit_put w k eight ways ends fits many c hc ∙ rw p at (bit_less s c hc))

-- ---- the ways from one episode, in words

-- the rows of the ways above `a` have the ways from there
pub record Above (g : Graph) (w : List ℕ) (a : ℕ) : Type 0 where
  pub sound : (x y : ℕ) → a < x → x < 256 → y < 256 → bit w (ways_at + 8 * x) y ≡ 1 → Way g x y
  pub complete : (x y : ℕ) → a < x → x < 256 → y < 256 → Way g x y → bit w (ways_at + 8 * x) y ≡ 1

-- After the links of `a` below `b`.
pub record InRow (w w' : List ℕ) (a b : ℕ) : Type 0 where
  pub outside : Outside (ways_at + 8 * a) (ways_at + 8 * a + 8) w w'
  pub at_least : a < b
  pub at_most : b ≤ 256
  pub ways : (g : Graph) → LinksRise g → Matrix links_at w (Link g) → Above g w a → Reaching g (λ c. bit w (ways_at + 8 * a) c ≡ 1) a 0
      → Reaching g (λ c. bit w' (ways_at + 8 * a) c ≡ 1) a b

pub row_start : (w : List ℕ) (a : ℕ) → a < 256 → InRow w w a (a + 1)
row_start w a ha =
    record {
      outside = outside_none (ways_at + 8 * a) (ways_at + 8 * a + 8) w;
      at_least = omega arith;
      at_most = omega arith;
      ways = λ g rise l m r.
          record { sound = r.sound; links = λ c h hc k. absurd (omega (arith, (rise a c k).0)); closed = r.closed };
    }

-- up to the next link that is not in the row, which stays as it is
pub row_next : {w w' : List ℕ} {a b b' : ℕ} → a < 256 → InRow w w' a b → NextNew w' (links_at + 8 * a) (ways_at + 8 * a) b b' → InRow w w' a b'
row_next {w} {w'} {a} {b} {b'} ha s n =
    record {
      outside = s.outside;
      at_least = omega (arith, s.at_least, n.at_least);
      at_most = n.at_most;
      ways = λ g rise l m r.
          let t = s.ways g rise l m r in
          record { sound = t.sound; links = λ c h hc k. links g l t c h hc k (dec_lt c b); closed = t.closed };
    }
  where
    links : (g : Graph) → Matrix links_at w (Link g) → Reaching g (λ c. bit w' (ways_at + 8 * a) c ≡ 1) a b → (c : ℕ) → c < b' → c < 256 → Link g a c
        → Dec (c < b) → bit w' (ways_at + 8 * a) c ≡ 1
    links g l t c h hc k (yes q) = t.links c q hc k
    links g l t c h hc k (no q) =
        n.passed c (omega arith) h (rw (bit_before s.outside (links_at + 8 * a) c (omega arith) hc) (l.complete a c ha hc k))

-- `b` is set in row `a`, and its ways are joined
module _ {w w' v u : List ℕ} {a b : ℕ} (ha : a < 256) (hb : b < 256) (s : InRow w w' a b) (new : bit w' (links_at + 8 * a) b ≡ 1)
    (p : BitSet w' v (ways_at + 8 * a) b) (q : RowJoined v u ways_at a b) where
  still : Outside (ways_at + 8 * a) (ways_at + 8 * a + 8) w v
  still = outside_then s.outside (set_outside (ways_at + 8 * a) b hb p)

  all_still : Outside (ways_at + 8 * a) (ways_at + 8 * a + 8) w u
  all_still = outside_then still (joined_outside q)

  row_joins : (g : Graph) → a < b → Above g w a
      → Joined g (λ c. bit w' (ways_at + 8 * a) c ≡ 1) (λ c. bit u (ways_at + 8 * a) c ≡ 1) b
  row_joins g up m =
      record {
        old = λ c hc o. from_set c hc (kept c o (ℕ_discrete c b));
        here = from_set b hb p.here;
        ways = λ c hc y.
            let e = q.joined c hc in
            let f : bit v (ways_at + 8 * b) c ≡ bit w (ways_at + 8 * b) c = row_b c hc in
            let o : bit w (ways_at + 8 * b) c ≡ 1 = m.complete b c up hb hc y in
            let l : bit v (ways_at + 8 * a) c < 2 = bit_lt v (ways_at + 8 * a) c in
            omega arith;
        no_other = λ c hc o. no_other c hc o (ℕ_discrete c b) (ℕ_discrete (bit v (ways_at + 8 * a) c) 1);
      }
    where
      row_b : (c : ℕ) → c < 256 → bit v (ways_at + 8 * b) c ≡ bit w (ways_at + 8 * b) c
      row_b c hc = row_other ways_at a still b c hc (λ e. absurd (omega arith))

      from_set : (c : ℕ) → c < 256 → bit v (ways_at + 8 * a) c ≡ 1 → bit u (ways_at + 8 * a) c ≡ 1
      from_set c hc o =
          let e = q.joined c hc in
          let l : bit v (ways_at + 8 * b) c < 2 = bit_lt v (ways_at + 8 * b) c in
          omega arith

      kept : (c : ℕ) → bit w' (ways_at + 8 * a) c ≡ 1 → Dec (c ≡ b) → bit v (ways_at + 8 * a) c ≡ 1
      kept c o (yes e) = rw e p.here
      kept c o (no ne) = rw (p.others c ne) o

      no_other : (c : ℕ) → c < 256 → bit u (ways_at + 8 * a) c ≡ 1 → Dec (c ≡ b) → Dec (bit v (ways_at + 8 * a) c ≡ 1)
          → (bit w' (ways_at + 8 * a) c ≡ 1) ⊎ (c ≡ b) ⊎ Way g b c
      no_other c hc o (yes e) d = inr (inl e)
      no_other c hc o (no ne) (yes f) = inl (rw (p.others c ne) at f)
      no_other c hc o (no ne) (no nf) =
          let e = q.joined c hc in
          let f : bit v (ways_at + 8 * b) c ≡ bit w (ways_at + 8 * b) c = row_b c hc in
          let l : bit v (ways_at + 8 * a) c < 2 = bit_lt v (ways_at + 8 * a) c in
          let l' : bit v (ways_at + 8 * b) c < 2 = bit_lt v (ways_at + 8 * b) c in
          inr (inr (m.sound b c up hb hc (omega (arith, nf))))

  pub row_on : InRow w u a (b + 1)
  row_on =
      record {
        outside = all_still;
        at_least = omega (arith, s.at_least);
        at_most = omega arith;
        ways = λ g rise l m r.
            let k : Link g a b = l.sound a b ha hb (rw (bit_before s.outside (links_at + 8 * a) b (omega arith) hb) at new) in
            reaching_on (b + 1) (s.ways g rise l m r) k (row_joins g (rise a b k).0 m) (λ c lo hi. absurd (omega arith));
      }

-- `v` is `w` with the links of `a` to ends, those that are not in `linked`
module _ {w v w' linked : List ℕ} {a b : ℕ} (ha : a < 256) (t : EndsTaken w v a linked) (h : 256 ≤ b) (s : InRow v w' a b) where
  same : (x y : ℕ) → y < 256 → (x ≡ a → ⊥) → bit w' (ways_at + 8 * x) y ≡ bit w (ways_at + 8 * x) y
  same = row_other ways_at a (outside_then t.outside s.outside)

  -- from an end there is no way, and so the ends are the ways by way of them
  ends_reach : (g : Graph) → LinksRise g → LinkedFrom g (a + 1) linked → Matrix links_at w (Link g)
      → Reaching g (λ c. bit v (ways_at + 8 * a) c ≡ 1) a 0
  ends_reach g rise noted l =
      record {
        sound = λ c hc o. one (l.sound a c ha hc (t.sound c hc o).0);
        links = λ c k. absurd (omega arith);
        closed = λ c d hc hd o y.
            let (link, end) = t.sound c hc o in
            let no_end : bit linked 0 c ≡ 1 = starts c d (λ e. noted c e (omega (arith, (rise a c (l.sound a c ha hc link)).0))) y in
            absurd (omega arith);
      }
    where
      starts : (c d : ℕ) → ((e : ℕ) → Link g c e → bit linked 0 c ≡ 1) → Way g c d → bit linked 0 c ≡ 1
      starts c d f (one {b = e} k) = f e k
      starts c d f (step {b = e} k y) = f e k

  above : (g : Graph) → Matrix ways_at w (WayFrom g (a + 1)) → Above g v a
  above g m =
      record {
        sound = λ x y up hx hy o. (m.sound x y hx hy (rw (still x y up hy) at o)).1;
        complete = λ x y up hx hy r. rw (still x y up hy) (m.complete x y hx hy (omega arith, r));
      }
    where
      still : (x y : ℕ) → a < x → y < 256 → bit v (ways_at + 8 * x) y ≡ bit w (ways_at + 8 * x) y
      still x y up hy = row_other ways_at a t.outside x y hy (λ e. absurd (omega arith))

  pub row_end : RowReached w w' a linked
  row_end =
      record {
        outside = outside_wider (omega arith) (omega arith) (outside_then t.outside s.outside);
        ways = λ g rise noted l m.
            let r = s.ways g rise (matrix_before (omega arith) t.outside l) (above g m) (ends_reach g rise noted l) in
            record {
              sound = λ x y hx hy o. sound g r m x y hx hy o (ℕ_discrete x a);
              complete = λ x y hx hy q. complete g rise r m x y hx hy q (ℕ_discrete x a);
            };
      }
    where
      sound : (g : Graph) → Reaching g (λ c. bit w' (ways_at + 8 * a) c ≡ 1) a b → Matrix ways_at w (WayFrom g (a + 1)) → (x y : ℕ) → x < 256
          → y < 256 → bit w' (ways_at + 8 * x) y ≡ 1 → Dec (x ≡ a) → WayFrom g a x y
      sound g r m x y hx hy o (yes e) = (omega arith, rw e (r.sound y hy (rw e at o)))
      sound g r m x y hx hy o (no ne) = let (up, way) = m.sound x y hx hy (rw (same x y hy ne) at o) in (omega arith, way)

      complete : (g : Graph) → LinksRise g → Reaching g (λ c. bit w' (ways_at + 8 * a) c ≡ 1) a b → Matrix ways_at w (WayFrom g (a + 1)) → (x y : ℕ)
          → x < 256 → y < 256 → WayFrom g a x y → Dec (x ≡ a) → bit w' (ways_at + 8 * x) y ≡ 1
      complete g rise r m x y hx hy (from, way) (yes e) = rw e (reaching_end rise h r y hy (rw e at way))
      complete g rise r m x y hx hy (from, way) (no ne) = rw (same x y hy ne) (m.complete x y hx hy (omega (arith, ne), way))

-- ---- all rows

-- After the rows from `a` on.
pub record InRising (w w' linked : List ℕ) (n a : ℕ) : Type 0 where
  pub outside : Outside ways_at items_at w w'
  pub at_most : a ≤ n
  pub row : length linked ≡ 8
  pub noted : (g : Graph) → EndsBelow g → g.n ≡ n → LinksRise g → Matrix links_at w (Link g) → LinkedFrom g a linked
  pub ways : (g : Graph) → EndsBelow g → g.n ≡ n → LinksRise g → Matrix links_at w (Link g) → Matrix ways_at w' (WayFrom g a)

-- no episode is from `n` on, and no bit is set
pub rising_start : (w linked : List ℕ) (n : ℕ) → length linked ≡ 8 → NoWays w → InRising w w linked n n
rising_start w linked n eight zeros =
    record {
      outside = outside_none ways_at items_at w;
      at_most = omega arith;
      row = eight;
      noted = λ g ends e rise l a b h k. let p : a < g.n = (ends a b k).0 in absurd (omega arith);
      ways = λ g ends e rise l.
          record {
            sound = λ x y hx hy o.
                let z : bit w (ways_at + 8 * x) y ≡ 0 =
                bits_zero w (ways_at + 8 * x) y (zeros (ways_at + 8 * x + y / 32) (omega arith) (omega arith)) in
                absurd (omega arith);
            complete = λ x y hx hy r. let k : x < g.n = way_first ends r.1 in absurd (omega arith);
          };
    }

pub rising_row : (w w' w'' linked linked' : List ℕ) (n a b : ℕ) → a ≡ b + 1 → b < 256 → InRising w w' linked n a → RowReached w' w'' b linked
    → LinkNoted w'' b linked linked' → InRising w w'' linked' n b
rising_row w w' w'' linked linked' n a b e hb s r k =
    record {
      outside = still;
      at_most = omega arith;
      row = k.same_length ∙ s.row;
      noted = λ g ends f rise l c d h i. noted g rise (matrix_before (omega arith) still l) (s.noted g ends f rise l) c d h i (ℕ_discrete c b);
      ways = λ g ends f rise l.
          r.ways g rise (rw e at (s.noted g ends f rise l)) (matrix_before (omega arith) s.outside l) (rw e at (s.ways g ends f rise l));
    }
  where
    still : Outside ways_at items_at w w''
    still = outside_then s.outside r.outside

    noted : (g : Graph) → LinksRise g → Matrix links_at w'' (Link g) → LinkedFrom g a linked → (c d : ℕ) → b ≤ c → Link g c d → Dec (c ≡ b)
        → bit linked' 0 c ≡ 1
    noted g rise l old c d h i (yes f) = rw f (k.here d (rise c d i).1 (l.complete b d hb (rise c d i).1 (rw f at i)))
    noted g rise l old c d h i (no ne) = k.others c ne ∙ old c d (omega (arith, ne)) i

pub rising_end : (w w' linked : List ℕ) (n a : ℕ) → a ≡ 0 → InRising w w' linked n a → RisingReached w w' n
rising_end w w' linked n a z s =
    record {
      outside = s.outside;
      ways = λ g ends e rise l.
          let m = s.ways g ends e rise l in
          record {
            sound = λ x y hx hy o. (m.sound x y hx hy o).1;
            complete = λ x y hx hy r. m.complete x y hx hy (omega arith, r);
          };
    }
