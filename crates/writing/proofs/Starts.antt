-- The first item of a chain, found from one to the one before it. Fewer and fewer episodes have a way to its owner.
use mathlib.Core.Path.{◌≡◌}
use mathlib.Core.List.{List}
use Prim.Native.Nat.{ℕ, ◌+◌, ◌*◌, ◌≤◌, ◌<◌}
use native.Mathlib.Decide.{ℕ_discrete}
use native.Mathlib.Omega.{arith}
use Rattle.paths.specs.Graph.{Graph, Way}
use Rattle.paths.specs.Items.{owner}
use Rattle.paths.proofs.Ways.{way_trans}
use Rattle.paths.proofs.Items.{owner_below}
use Rattle.bits.specs.Bits.{bit, sum}
use Rattle.bits.specs.Work.{ways_at}
use Rattle.bits.proofs.Rows.{bit_lt}
use Rattle.searching.specs.Items.{Matching, Steps, stay, go as ahead}
use Rattle.searching.specs.State.{tables}
use Rattle.chains.proofs.Counts.{sum_less}
use Rattle.items.specs.Listed.{owner_in}
use Rattle.writing.specs.Writing.{Solved}

-- how many have a way to `x`
abbrev pub ways_to : List ℕ → ℕ → ℕ
ways_to w x = sum (λ a. bit w (ways_at + 8 * a) x) 256

-- the chain of `v` is known from `x` on
pub record Starting (w : List ℕ) (v x : ℕ) : Type 0 where
  pub below : (n : ℕ) → Matching n (tables w) → v < n → x < n
  pub steps : Steps (tables w).next x v

pub start_none : (w : List ℕ) (v : ℕ) → Starting w v v
start_none w v = record { below = λ n m h. h; steps = stay }

module _ {w : List ℕ} {n v x : ℕ} (y : ℕ) (m : Matching n (tables w)) (h : v < n) (s : Starting w v x) (prior : (tables w).prev x ≡ y + 1) where
  below : x < n
  below = s.below n m h

  -- wherever the tables are sound and `v` is an item, the one before is an item too
  before_below : (n : ℕ) → Matching n (tables w) → v < n → y < n
  before_below n m h = let le = m.prev_le x (s.below n m h) in omega arith

  prior_below : y < n
  prior_below = before_below n m h

  behind : (tables w).next y ≡ x + 1
  behind = m.back y x prior_below below prior

  pub start_more : Starting w v y
  start_more = record { below = before_below; steps = ahead behind s.steps }

  pub start_less : {k : ℕ} (g : Graph) → Solved g k n w → ways_to w (owner_in w y) < ways_to w (owner_in w x)
  start_less g q =
      rw (q.owners y prior_below, q.owners x below)
      (sum_less 256 (λ a. bit w (ways_at + 8 * a) (owner g y)) (λ a. bit w (ways_at + 8 * a) (owner g x))
      (λ a l. le a l (ℕ_discrete (bit w (ways_at + 8 * a) (owner g y)) 1)) (owner g y) yl
      (less (ℕ_discrete (bit w (ways_at + 8 * owner g y) (owner g y)) 1)))
    where
      few : (z : ℕ) → z < n → owner g z < 256
      few z h = let o = owner_below g z (rw q.items h) in let c = q.count in omega (arith, q.few)

      yl : owner g y < 256
      yl = few y prior_below

      xl : owner g x < 256
      xl = few x below

      way : Way g (owner g y) (owner g x)
      way = q.pairs y x prior_below below behind

      le : (a : ℕ) → a < 256 → Dec (bit w (ways_at + 8 * a) (owner g y) ≡ 1)
          → bit w (ways_at + 8 * a) (owner g y) ≤ bit w (ways_at + 8 * a) (owner g x)
      le a l (yes e) =
          let f : bit w (ways_at + 8 * a) (owner g x) ≡ 1 =
          q.ways.complete a (owner g x) l xl (way_trans a (owner g y) (owner g x) (q.ways.sound a (owner g y) l yl e) way) in
          omega arith
      le a l (no ne) = let h = bit_lt w (ways_at + 8 * a) (owner g y) in omega arith

      less : Dec (bit w (ways_at + 8 * owner g y) (owner g y) ≡ 1)
          → bit w (ways_at + 8 * owner g y) (owner g y) < bit w (ways_at + 8 * owner g y) (owner g x)
      less (yes e) = absurd (q.acyclic (owner g y) (q.ways.sound (owner g y) (owner g y) yl yl e))
      less (no ne) =
          let f = q.ways.complete (owner g y) (owner g x) yl xl way in
          let h = bit_lt w (ways_at + 8 * owner g y) (owner g y) in
          omega arith
