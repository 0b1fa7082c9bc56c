-- Warshall's closure: one row, one round, all rounds.
use mathlib.Core.Path.{◌≡◌, refl, sym, ◌∙◌, subst}
use mathlib.Core.Logic.{◌⊎◌, ⊎_elim, inl, inr}
use mathlib.Core.List.{List}
use Prim.Native.Nat.{ℕ, suc, ◌+◌, ◌*◌, ◌≤◌, ◌<◌}
use native.Mathlib.Decide.{ℕ_discrete}
use native.Mathlib.Numerals.{add-one}
use native.Mathlib.Omega.{arith}
use Rattle.paths.specs.Graph.{Graph, EndsBelow, Link}
use Rattle.paths.specs.Closure.{WayBelow}
use Rattle.paths.proofs.Ways.{below_way, way_below, way_first}
use Rattle.bits.specs.Bits.{bit, RowGained}
use Rattle.bits.specs.Work.{ways_at, Matrix, Outside, items_at}
use Rattle.bits.proofs.Rows.{bit_lt}
use Rattle.reach.specs.Reach.{HoldsWays, RowClosed, RoundClosed, Closed}
use Rattle.bits.proofs.Frames.{outside_none, outside_then, outside_wider, gained_outside, row_other}

-- the ways of `k` were joined into row `a`, where `a` has `k`
pub row_joined_closed : (w w' v : List ℕ) (a k : ℕ) → a < 256 → HoldsWays w k v → bit w (ways_at + 8 * a) k ≡ 1 → RowGained v w w' (ways_at + 8 * a)
    → RowClosed w w' a k
row_joined_closed w w' v a k ha held o j =
    record {
      outside = outside_wider (omega arith) (omega arith) (gained_outside j);
      here = λ y hy.
          let e = j.joined y hy in
          let same : bit v 0 y ≡ bit w (ways_at + 8 * k) y = held y hy in
          let l : bit w (ways_at + 8 * k) y < 2 = bit_lt w (ways_at + 8 * k) y in
          omega arith;
      other = λ x y hx hy ne. row_other ways_at a (gained_outside j) x y hy ne;
    }

-- and left alone, where it has not
pub row_left_closed : (w : List ℕ) (a k : ℕ) → (bit w (ways_at + 8 * a) k ≡ 1 → ⊥) → RowClosed w w a k
row_left_closed w a k z =
    record {
      outside = outside_none ways_at items_at w;
      here = λ y hy.
          let l : bit w (ways_at + 8 * a) k < 2 = bit_lt w (ways_at + 8 * a) k in
          let none : bit w (ways_at + 8 * a) k ≡ 0 = omega (arith, z) in
          omega arith;
      other = λ x y hx hy ne. refl;
    }

-- row `k` itself stays as it is
ways_kept : (v : List ℕ) {w w' : List ℕ} {a k : ℕ} → k < 256 → RowClosed w w' a k → HoldsWays w k v → HoldsWays w' k v
ways_kept v {w} {w'} {a} {k} hk c held b hb = held b hb ∙ sym (same (ℕ_discrete k a))
  where
    same : Dec (k ≡ a) → bit w' (ways_at + 8 * k) b ≡ bit w (ways_at + 8 * k) b
    same (no ne) = c.other k b hk hb ne
    same (yes e) = rw e (omega (arith, rw e at (c.here b hb)))

-- the pairs of `R`, and of rows below `a` those by way of `k`
abbrev pub By : (ℕ → ℕ → Type 0) → ℕ → ℕ → ℕ → ℕ → Type 0
By R k a x y = R x y ⊎ ((x < a) × R x k × R k y)

module _ {R : ℕ → ℕ → Type 0} {w w' : List ℕ} {a k : ℕ} (hk : k < 256) (ha : a < 256) (m : Matrix ways_at w (By R k a)) (c : RowClosed w w' a k) where
  -- what rows `k` and `a` hold before
  row_k : (y : ℕ) → By R k a k y → R k y
  row_k y (inl r) = r
  row_k y (inr (l, r, s)) = s

  row_a : (y : ℕ) → By R k a a y → R a y
  row_a y (inl r) = r
  row_a y (inr (l, r, s)) = absurd (omega arith)

  sound_a : (y : ℕ) → y < 256 → bit w' (ways_at + 8 * a) y ≡ 1 → Dec (bit w (ways_at + 8 * a) y ≡ 1) → By R k (a + 1) a y
  sound_a y hy o (yes q) = inl (row_a y (m.sound a y ha hy q))
  sound_a y hy o (no q) =
      let e = c.here y hy in
      let l : bit w (ways_at + 8 * a) y < 2 = bit_lt w (ways_at + 8 * a) y in
      let l' : bit w (ways_at + 8 * a) k < 2 = bit_lt w (ways_at + 8 * a) k in
      let l'' : bit w (ways_at + 8 * k) y < 2 = bit_lt w (ways_at + 8 * k) y in
      inr (omega arith, row_a k (m.sound a k ha hk (omega (arith, q))), row_k y (m.sound k y hk hy (omega (arith, q))))

  complete_a : (y : ℕ) → y < 256 → By R k (a + 1) a y → bit w' (ways_at + 8 * a) y ≡ 1
  complete_a y hy (inl r) =
      let o : bit w (ways_at + 8 * a) y ≡ 1 = m.complete a y ha hy (inl r) in
      let e = c.here y hy in
      let l : bit w (ways_at + 8 * a) k < 2 = bit_lt w (ways_at + 8 * a) k in
      omega arith
  complete_a y hy (inr (l, r, s)) =
      let o : bit w (ways_at + 8 * a) k ≡ 1 = m.complete a k ha hk (inl r) in
      let q : bit w (ways_at + 8 * k) y ≡ 1 = m.complete k y hk hy (inl s) in
      let e = c.here y hy in
      let b : bit w (ways_at + 8 * a) y < 2 = bit_lt w (ways_at + 8 * a) y in
      omega arith

  row_by : Matrix ways_at w' (By R k (a + 1))
  row_by =
      record {
        sound = λ x y hx hy o. sound x y hx hy o (ℕ_discrete x a);
        complete = λ x y hx hy r. complete x y hx hy r (ℕ_discrete x a);
      }
    where
      sound : (x y : ℕ) → x < 256 → y < 256 → bit w' (ways_at + 8 * x) y ≡ 1 → Dec (x ≡ a) → By R k (a + 1) x y
      sound x y hx hy o (no ne) = ⊎_elim inl (λ r. inr (omega arith, r.1, r.2)) (m.sound x y hx hy (rw (c.other x y hx hy ne) at o))
      sound x y hx hy o (yes e) = rw e (sound_a y hy (rw e at o) (ℕ_discrete (bit w (ways_at + 8 * a) y) 1))

      complete : (x y : ℕ) → x < 256 → y < 256 → By R k (a + 1) x y → Dec (x ≡ a) → bit w' (ways_at + 8 * x) y ≡ 1
      complete x y hx hy r (no ne) = rw (c.other x y hx hy ne) (m.complete x y hx hy (⊎_elim inl (λ q. inr (omega arith, q.1, q.2)) r))
      complete x y hx hy r (yes e) = rw e (complete_a y hy (rw e at r))

-- After the rows below `a` of round `k`, where `v` has the ways of `k`.
pub record InRound (w w' v : List ℕ) (n k a : ℕ) : Type 0 where
  pub outside : Outside ways_at items_at w w'
  pub at_most : a ≤ n
  pub held : HoldsWays w' k v
  pub ways : (g : Graph) → Matrix ways_at w (WayBelow g k) → Matrix ways_at w' (By (WayBelow g k) k a)

pub round_row : (w w' w'' v : List ℕ) (n k a : ℕ) → k < 256 → a < n → n ≤ 256 → InRound w w' v n k a → RowClosed w' w'' a k
    → InRound w w'' v n k (a + 1)
round_row w w' w'' v n k a hk ha few s c =
    record {
      outside = outside_then s.outside c.outside;
      at_most = omega arith;
      held = ways_kept v hk c s.held;
      ways = λ g m. row_by hk (omega arith) (s.ways g m) c;
    }

pub round_end : (w w' v : List ℕ) (n k a : ℕ) → n ≤ a → InRound w w' v n k a → RoundClosed w w' n k
unfolding WayBelow
round_end w w' v n k a h s =
    record {
      outside = s.outside;
      ways = λ g ends e m.
          let q = s.ways g m in
          let next : k + 1 ≡ suc k = add-one k in
          subst (λ (j : ℕ). Matrix ways_at w' (WayBelow g j)) (sym next)
          (record {
            sound = λ x y hx hy o. ⊎_elim inl (λ r. inr (r.1, r.2)) (q.sound x y hx hy o);
            complete = λ x y hx hy r.
                q.complete x y hx hy
                (⊎_elim inl
                (λ r. let l : x < g.n = way_first ends (below_way g k r.0) in inr (omega arith, r.0, r.1)) r);
          });
    }

-- After the rounds below `k`.
pub record InClosure (w w' : List ℕ) (n k : ℕ) : Type 0 where
  pub outside : Outside ways_at items_at w w'
  pub at_most : k ≤ n
  pub ways : (g : Graph) → EndsBelow g → g.n ≡ n → Matrix ways_at w (Link g) → Matrix ways_at w' (WayBelow g k)

pub closure_start : (w : List ℕ) (n : ℕ) → InClosure w w n 0
unfolding WayBelow
closure_start w n = record { outside = outside_none ways_at items_at w; at_most = omega arith; ways = λ g ends e m. m }

pub closure_round : (w w' w'' : List ℕ) (n k : ℕ) → k < n → InClosure w w' n k → RoundClosed w' w'' n k → InClosure w w'' n (k + 1)
closure_round w w' w'' n k h s r =
    record {
      outside = outside_then s.outside r.outside;
      at_most = omega arith;
      ways = λ g ends e m. r.ways g ends e (s.ways g ends e m);
    }

pub closure_end : (w w' : List ℕ) (n k : ℕ) → n ≤ k → InClosure w w' n k → Closed w w' n
closure_end w w' n k h s =
    record {
      outside = s.outside;
      ways = λ g ends e m.
          let q = s.ways g ends e m in
          let all : k ≡ g.n = omega (arith, s.at_most) in
          record {
            sound = λ x y hx hy o. below_way g k (q.sound x y hx hy o);
            complete = λ x y hx hy r. q.complete x y hx hy (rw all (way_below g ends r));
          };
    }
