-- The items in the work words are those of a graph whose ways and voices stand there.
use mathlib.Core.Path.{◌≡◌, sym, ap, ◌∙◌}
use mathlib.Core.List.{List}
use Prim.Native.Nat.{ℕ, ◌+◌, ◌*◌, ◌≤◌, ◌<◌}
use native.Mathlib.Omega.{arith}
use lib.ListN.{length, get_or}
use Rattle.std.specs.Prelude.{◌↔◌}
use Rattle.paths.specs.Graph.{Graph, EndsBelow, Way}
use Rattle.paths.specs.Items.{owners, item_count, owner, first_item, ItemWay}
use Rattle.paths.proofs.Ways.{way_last}
use Rattle.paths.proofs.Items.{owners_same, owner_below}
use Rattle.bits.specs.Bits.{bit}
use Rattle.bits.specs.Work.{ways_at, items_at, Matrix}
use Rattle.items.specs.Listed.{voices_in, start_in, owner_in, Listed, WaysBelow, PairsIn}

module _ (g : Graph) {w : List ℕ} {n m : ℕ} (e : g.n ≡ n) (voices : (v : ℕ) → v < n → voices_in w v ≡ g.voices v) (l : Listed w n m) where
  same_owners : (k : ℕ) → k ≤ n → owners (voices_in w) k ≡ owners g.voices k
  same_owners k h = owners_same (voices_in w) g.voices k (λ v b. voices v (omega arith))

  all_owners : owners (voices_in w) n ≡ owners g.voices g.n
  all_owners = same_owners n (omega arith) ∙ ap (owners g.voices) (sym e)

  -- their count, whose they are, and where those of an episode start
  pub items_are : m ≡ item_count g
  items_are = l.count ∙ ap length all_owners

  pub owner_is : (x : ℕ) → x < m → owner_in w x ≡ owner g x
  owner_is x h = l.owners x h ∙ ap (λ (q : List ℕ). get_or q x 0) all_owners

  pub start_is : (v : ℕ) → v < n → start_in w v ≡ first_item g v
  start_is v h = l.starts v h ∙ ap length (same_owners v (omega arith))

  owner_few : (x : ℕ) → x < m → owner g x < 256
  owner_few x h = omega (arith, owner_below g x (omega (arith, items_are)), l.few)

  -- ways lead to episodes alone, and the pairs of items are the ways of their owners
  module _ (ways : Matrix ways_at w (Way g)) (ends : EndsBelow g) where
    pub ways_below : WaysBelow w n
    ways_below a b ha hb o = let few = l.few in omega (arith, way_last ends (ways.sound a b (omega arith) hb o))

    pub pairs_are : (w' : List ℕ) → PairsIn w w' m → (x y : ℕ) → x < m → y < m → (bit w' (items_at + 8 * x) y ≡ 1) ↔ ItemWay g x y
    pairs_are w' p x y h k =
        let same : bit w' (items_at + 8 * x) y ≡ bit w (ways_at + 8 * owner g x) (owner g y) =
        rw (owner_is x h, owner_is y k) at (p.pairs x y h k) in (
          λ o. ways.sound (owner g x) (owner g y) (owner_few x h) (owner_few y k) (sym same ∙ o),
          λ r. same ∙ ways.complete (owner g x) (owner g y) (owner_few x h) (owner_few y k) r,
        )
