-- Going back along a search's trail: each item on it gets another one behind it, and in the end there is one chain fewer.
use Rattle.std.proofs.lemmas.Grind.{common_steps}
use mathlib.Core.Path.{◌≡◌}
use mathlib.Core.Logic.{◌⊎◌, inl, inr, ◌≢◌}
use Prim.Native.Nat.{ℕ, ◌+◌, ◌≤◌, ◌<◌}
use native.Mathlib.Omega.{arith}
use Rattle.searching.specs.Items.{Tables, SeenFrom, Trail, Extended, Flipping, Flipped}

module _ {m : ℕ} {R : ℕ → ℕ → Type 0} {dead : ℕ → ℕ} {t₀ t : Tables} {tail b : ℕ} (p : ℕ) where
  -- the item from which `b` was seen
  seen_from : Flipping m R dead t₀ t tail b → t₀.via b ≡ p + 1 → (p < tail) × R (t₀.queue p) b
  seen_from f v = grind (arith, common_steps)

  -- and it has the item behind it that it had
  as_before : Flipping m R dead t₀ t tail b → t₀.via b ≡ p + 1 → t.next (t₀.queue p) ≡ t₀.next (t₀.queue p)
  as_before f v = f.untouched p (omega arith)

  module _ {t' : Tables} (l : Trail m R dead t₀ tail) (f : Flipping m R dead t₀ t tail b) (v : t₀.via b ≡ p + 1) (w : Flipped m t t' (t₀.queue p) b) where
    low : t₀.queue p < m
    low = l.queued p (seen_from f v).0

    next_low : (x : ℕ) → x < m → t'.next x ≤ m
    next_low x xl = grind (arith, common_steps)

    prev_low : (y : ℕ) → y < m → t'.prev y ≤ m
    prev_low y yl = grind (arith, common_steps)

    -- a pair of the new chains is the new one or one of the old
    pair : (x y : ℕ) → x < m → y < m → t'.next x ≡ y + 1
        → ((x ≡ t₀.queue p) × (y ≡ b)) ⊎ ((x ≢ t₀.queue p) × (t.next x ≡ y + 1))
    pair x y xl yl h = grind (arith, common_steps)

    there' : (x y : ℕ) → x < m → y < m → t'.next x ≡ y + 1 → t'.prev y ≡ x + 1
    there' x y xl yl h = go (pair x y xl yl h)
      where
        go : ((x ≡ t₀.queue p) × (y ≡ b)) ⊎ ((x ≢ t₀.queue p) × (t.next x ≡ y + 1)) → t'.prev y ≡ x + 1
        go (inl (e, i)) = rw (e, i) w.prev_here
        go (inr (ne, i)) = let (nb, j) = f.there x y xl yl i in let n = w.prev_other y yl nb in omega arith

    -- where what stood behind the item is not `y`
    back' : (x y : ℕ) → x < m → y < m → t.next (t₀.queue p) ≢ y + 1 → t'.prev y ≡ x + 1 → t'.next x ≡ y + 1
    back' x y xl yl ny h = grind (arith, common_steps)

    pairs' : (x y : ℕ) → x < m → y < m → t'.next x ≡ y + 1 → (t₀.next x ≡ y + 1) ⊎ R x y
    pairs' x y xl yl h = grind (arith, common_steps)

    ends' : (x : ℕ) → x < m → t'.next x ≡ 0 → t₀.next x ≡ 0
    ends' x xl h = grind (arith, common_steps)

    dead_prev' : (c : ℕ) → c < m → dead c ≡ 1 → t'.prev c ≡ t₀.prev c
    dead_prev' c cl d = grind (arith, common_steps)

    -- only the item at place 0 ends a chain, so each other item that does is left
    others' : (x : ℕ) → x < m → x ≢ t₀.queue 0 → t₀.next x ≡ 0 → t'.next x ≡ 0
    others' x xl n h = grind (arith, common_steps)

    -- one step back
    pub flip_on : {c : ℕ} → t.next (t₀.queue p) ≡ c + 1 → Flipping m R dead t₀ t' tail c × (t₀.via c < t₀.via b)
    flip_on {c} h = go (l.earlier p c (seen_from f v).0 cl (omega (arith, as_before f v)))
      where
        cl : c < m
        cl = let i = f.next_le (t₀.queue p) low in omega arith

        old : (c ≢ b) × (t.prev c ≡ t₀.queue p + 1)
        old = f.there (t₀.queue p) c low cl h

        other : (x y : ℕ) → x < m → y < m → t'.next x ≡ y + 1 → y ≢ c
        other x y xl yl i e = grind (arith, common_steps, pair x y xl yl i, old)

        go : (dead c ≢ 1) × SeenFrom R t₀ p c → Flipping m R dead t₀ t' tail c × (t₀.via c < t₀.via b)
        go (n, (q, ql, u, r)) = (
          record {
            below = cl;
            new = n;
            from = (q, omega (arith, (seen_from f v).0), u, r);
            next_le = next_low;
            prev_le = prev_low;
            there = λ x y xl yl i. (other x y xl yl i, there' x y xl yl i);
            back = λ x y xl yl ne i. back' x y xl yl (λ j. ne (omega arith)) i;
            pairs = pairs';
            ends = ends';
            dead_prev = dead_prev';
            others = others';
            untouched = λ o ol. untouched' o (omega arith);
          },
          omega arith,
        )
          where
            untouched' : (o : ℕ) → o < p → t'.next (t₀.queue o) ≡ t₀.next (t₀.queue o)
            untouched' o ol = grind (arith, common_steps)

    -- the last step
    pub flip_end : t.next (t₀.queue p) ≡ 0 → Extended m R dead t₀ t' (t₀.queue 0)
    flip_end h =
        record {
          shrunk =
              record {
                matching =
                    record {
                      next_le = next_low;
                      prev_le = prev_low;
                      there = there';
                      back = λ x y xl yl i. back' x y xl yl (λ j. omega arith) i;
                    };
                pairs = pairs';
                ends = ends';
                fewer = (t₀.queue p, low, omega (arith, as_before f v), omega (arith, w.next_here));
              };
          dead_prev = dead_prev';
          others = others';
          joined =
              let z : p ≡ 0 = l.last p (seen_from f v).0 (omega (arith, as_before f v)) in
              let i : t'.next (t₀.queue 0) ≡ b + 1 = rw z at w.next_here in
              omega arith;
        }
