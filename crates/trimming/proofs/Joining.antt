-- The row of what is implied, link by link: it has the ways of the links so far, and is closed under ways, so that a link that is in it has
-- nothing to add.
use mathlib.Core.Path.{◌≡◌, sym, ap, ◌∙◌}
use mathlib.Core.Logic.{⊎_elim}
use mathlib.Core.List.{List}
use Prim.Native.Nat.{ℕ, ◌+◌, ◌-◌, ◌*◌, ◌/◌, ◌≤◌, ◌<◌}
use native.Mathlib.Decide.{ℕ_discrete, dec_lt}
use native.Mathlib.Omega.{arith}
use lib.ListN.{length, get_or, replicate, get_or-replicate}
use Rattle.paths.specs.Graph.{Graph, Link, Way}
use Rattle.paths.specs.Trimmed.{Implied}
use Rattle.paths.proofs.Ways.{way_trans}
use Rattle.bits.specs.Bits.{digit, bit, RowsAdded}
use Rattle.bits.specs.Work.{links_at, ways_at, Matrix}
use Rattle.bits.proofs.Rows.{bit_lt, bits_zero, new_word}
use Rattle.trimming.specs.Trimming.{Held, HoldsImplied}

-- ---- all links of an episode

-- the row of what is implied has the ways of the links of `a` below `b`
record Row (g : Graph) (v : List ℕ) (a b : ℕ) : Type 0 where
  sound : (c : ℕ) → c < 256 → bit v 0 c ≡ 1 → Implied g a c
  closed : (c d : ℕ) → c < 256 → d < 256 → bit v 0 c ≡ 1 → Way g c d → bit v 0 d ≡ 1
  taken : (x d : ℕ) → x < b → x < 256 → d < 256 → Link g a x → Way g x d → bit v 0 d ≡ 1

-- after the first `i` words of its links, which start at word `from`
pub record Noting (w v : List ℕ) (from i : ℕ) : Type 0 where
  pub size : length v ≡ 8
  row : (a : ℕ) → from ≡ links_at + 8 * a → (g : Graph) (n : ℕ) → Held g n w → Row g v a (32 * i)

pub noting_start : (w v : List ℕ) (from : ℕ) → v ≡ replicate 8 0 → Noting w v from 0
noting_start w v from e =
    let none : (c : ℕ) → c < 256 → bit v 0 c ≡ 1 → ⊥ = λ c hc o.
    let z = bits_zero v 0 c (rw e (get_or-replicate 8 (0 + c / 32) 0 0 (omega arith))) in omega arith in
    record {
      size = ap length e;
      row = λ a p g n held.
          record {
            sound = λ c hc o. absurd (none c hc o);
            closed = λ c d hc hd o y. absurd (none c hc o);
            taken = λ x d hx. absurd (omega arith);
          };
    }

-- the ways of one more word of links, less those that are implied, are joined
module _ {w v v' : List ℕ} {from i x : ℕ} (within : from + 8 ≤ ways_at) (hi : i < 8) (s : Noting w v from i)
    (new : (j : ℕ) → digit x j ≡ digit (get_or w (from + i) 0) j - digit (get_or v i 0) j) (q : RowsAdded w (ways_at + 256 * i) x v v') where
  -- the row of ways that a digit names
  row_of : (j c : ℕ) → bit w (ways_at + 256 * i + 8 * j) c ≡ bit w (ways_at + 8 * (32 * i + j)) c
  row_of j c = ap (λ (row : ℕ). bit w row c) (omega arith)

  -- a digit is one where there is a link that is not implied
  new_digit : (j : ℕ) → j < 32 → digit x j ≡ bit w from (32 * i + j) - bit v 0 (32 * i + j)
  new_digit = new_word w v from 0 i x (let e : 0 + i ≡ i = omega arith in rw e new)

  fresh_link : (j : ℕ) → j < 32 → digit x j ≡ 1 → bit w from (32 * i + j) ≡ 1
  fresh_link j h o = omega (arith, new_digit j h, bit_lt w from (32 * i + j))

  link_fresh : (j : ℕ) → j < 32 → bit w from (32 * i + j) ≡ 1 → bit v 0 (32 * i + j) ≡ 0 → digit x j ≡ 1
  link_fresh j h l n = omega (arith, new_digit j h)

  row_on : (a : ℕ) → from ≡ links_at + 8 * a → (g : Graph) (n : ℕ) → Held g n w → Row g v' a (32 * (i + 1))
  row_on a p g n held =
      record {
        sound = λ c hc o.
            ⊎_elim (r.sound c hc)
            (λ (j, hj, d, y).
            (32 * i + j, links.sound a (32 * i + j) ha (omega arith) (rw p at (fresh_link j hj d)), ways.sound (32 * i + j) c (omega arith) hc (sym (row_of j c) ∙ y)))
            (q.no_other c hc o);
        closed = λ c d hc hd o y.
            ⊎_elim (λ e. q.old d hd (r.closed c d hc hd e y))
            (λ (j, hj, e, z).
            q.new j d hj hd e
            (row_of j d
            ∙ ways.complete (32 * i + j) d (omega arith) hd
            (way_trans (32 * i + j) c d (ways.sound (32 * i + j) c (omega arith) hc (sym (row_of j c) ∙ z)) y)))
            (q.no_other c hc o);
        taken = λ x d hx lx hd l y. taken x d hx lx hd l y (dec_lt x (32 * i));
      }
    where
      r : Row g v a (32 * i)
      r = s.row a p g n held

      ha : a < 256
      ha = omega arith

      links : Matrix links_at w (Link g)
      links = held.links

      ways : Matrix ways_at w (Way g)
      ways = held.ways

      taken : (x d : ℕ) → x < 32 * (i + 1) → x < 256 → d < 256 → Link g a x → Way g x d → Dec (x < 32 * i) → bit v' 0 d ≡ 1
      taken x d hx lx hd l y (yes h) = q.old d hd (r.taken x d h lx hd l y)
      taken x d hx lx hd l y (no h) = go (ℕ_discrete (bit v 0 x) 1)
        where
          place : 32 * i + (x - 32 * i) ≡ x
          place = omega arith

          go : Dec (bit v 0 x ≡ 1) → bit v' 0 d ≡ 1
          go (yes e) = q.old d hd (r.closed x d lx hd e y)
          go (no ne) =
              q.new (x - 32 * i) d (omega arith) hd
              (link_fresh (x - 32 * i) (omega arith) (rw (p, place) (links.complete a x ha lx l)) (rw place (omega (arith, ne, bit_lt v 0 x))))
              (row_of (x - 32 * i) d ∙ rw place (ways.complete x d lx hd y))

  pub noting_on : Noting w v' from (i + 1)
  noting_on = record { size = q.same_length ∙ s.size; row = row_on }

-- all links are had
pub noting_end : {w v : List ℕ} {from i : ℕ} → 8 ≤ i → Noting w v from i → (a : ℕ) → from ≡ links_at + 8 * a → HoldsImplied w a v
noting_end h s a p g n held c hc =
    let r = s.row a p g n held in (
      r.sound c hc,
      λ (x, l, y).
          let e = held.ends a x l in
          let lx : x < 256 = omega (arith, held.count, held.few) in
          r.taken x c (omega arith) lx hc l y,
    )
