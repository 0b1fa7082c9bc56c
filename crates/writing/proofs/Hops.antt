-- The next step on a path: the links of an episode, one after the other, up to one that leads on.
use Rattle.std.proofs.Math.Logic.{∥∥₁_elim}
use mathlib.Core.Path.{◌≡◌, sym, ◌∙◌}
use mathlib.Core.Logic.{◌≢◌, inr}
use mathlib.Core.List.{List}
use Prim.Native.Nat.{ℕ, ◌+◌, ◌*◌, ◌<◌}
use native.Mathlib.Decide.{ℕ_discrete}
use native.Mathlib.Omega.{arith}
use Rattle.paths.specs.Graph.{Graph, Way, one, step}
use Rattle.bits.specs.Bits.{bit}
use Rattle.bits.specs.Ones.{left, BitGiven}
use Rattle.bits.specs.declared.ones.Row.{Row}
use Rattle.bits.specs.Work.{links_at, ways_at}
use Rattle.writing.specs.Writing.{Solved, IsSolved, HopTo}

-- `s` goes through the links of `c`, and of those that are not left none leads to `b`
pub record Hopping (w : List ℕ) (c b : ℕ) (s : Row) : Type 0 where
  pub links : (y : ℕ) → left s y ≡ 1 → bit w (links_at + 8 * c) y ≡ 1
  pub passed : (y : ℕ) → left s y ≡ 0 → bit w (links_at + 8 * c) y ≡ 1 → bit w (ways_at + 8 * y) b ≢ 1

pub hop_start : {w : List ℕ} {c b : ℕ} (s : Row) → ((y : ℕ) → left s y ≡ bit w (links_at + 8 * c) y) → Hopping w c b s
hop_start s e = record { links = λ y l. sym (e y) ∙ l; passed = λ y z l. absurd (omega (arith, e y)) }

module _ {w : List ℕ} {c b : ℕ} {s : Row} (h : Hopping w c b s) where
  -- to the next link
  module _ {x : ℕ} {t : Row} (g : BitGiven s x t) where
    pub hop_next : bit w (ways_at + 8 * x) b ≢ 1 → Hopping w c b t
    hop_next ne = record { links = λ y l. links y l (ℕ_discrete y x); passed = λ y z l. passed y z l (ℕ_discrete y x) }
      where
        links : (y : ℕ) → left t y ≡ 1 → Dec (y ≡ x) → bit w (links_at + 8 * c) y ≡ 1
        links y l (yes e) = absurd (omega (arith, g.taken, rw e at l))
        links y l (no f) = h.links y (sym (g.others y f) ∙ l)

        passed : (y : ℕ) → left t y ≡ 0 → bit w (links_at + 8 * c) y ≡ 1 → Dec (y ≡ x) → bit w (ways_at + 8 * y) b ≢ 1
        passed y z l (yes e) = rw e ne
        passed y z l (no f) = h.passed y (sym (g.others y f) ∙ z) l

    pub hop_nearer : bit w (ways_at + 8 * x) b ≡ 1 → HopTo w c b x
    hop_nearer e = record { below = g.below; link = h.links x g.here; nearer = inr e }

  -- one leads there
  pub hop_done : {n m : ℕ} → IsSolved n m w → c < n → b < n → bit w (ways_at + 8 * c) b ≡ 1 → bit w (links_at + 8 * c) b ≢ 1
      → ((y : ℕ) → y < 256 → left s y ≡ 0) → ⊥
  hop_done {n} {m} solved cl bl e none end =
      ∥∥₁_elim solved (λ a b. absurd a) (λ (g, q). through g q (q.ways.sound c b (omega (arith, q.few)) (omega (arith, q.few)) e))
    where
      through : (g : Graph) → Solved g n m w → Way g c b → ⊥
      through g q (one l) = none (q.links.complete c b (omega (arith, q.few)) (omega (arith, q.few)) l)
      through g q (step {b = y} l p) =
          let yl = (q.ends c y l).1 in
          let count = q.count in
          let few = q.few in
          let link = q.links.complete c y (omega arith) (omega arith) l in
          h.passed y (end y (omega arith)) link (q.ways.complete y b (omega arith) (omega arith) p)
