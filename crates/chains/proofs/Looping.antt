-- A search from one item where each other one stands behind itself: what it leaves for a loop.
use mathlib.Core.Path.{◌≡◌, refl}
use mathlib.Core.Logic.{◌⊎◌, inl, inr}
use mathlib.Core.List.{List}
use Prim.Native.Nat.{ℕ, ◌+◌}
use native.Mathlib.Omega.{arith}
use Rattle.bits.specs.Work.{links_at, next_at, none_at, Matrix, Outside}
use Rattle.bits.proofs.Frames.{outside_then, outside_wider}
use Rattle.paths.specs.Graph.{Graph, EndsBelow, Link, Way}
use Rattle.searching.specs.Items.{SameChains, Dead, Shrunk}
use Rattle.chains.specs.Cycles.{Selves}
use Rattle.searching.specs.State.{tables, deads, Pairs, Sized, ForgottenIn}
use Rattle.chains.specs.Joined.{SelvesIn, ExtendedIn, LoopedIn}
use Rattle.chains.proofs.Cycle.{no_way_back}
use Rattle.searching.proofs.Deads.{dead_moved}
use Rattle.searching.proofs.Relations.{Within, chains_none, links_then, shrunk_within, shrunk_from}
use Rattle.searching.proofs.Showing.{same_chains, forth, back}

-- `e` are the words at first, `w₁` those with each item but `v` behind itself, and in `w₂` besides nothing is seen or dead
module _ {e w₁ w₂ : List ℕ} {m v : ℕ} (z : Sized e links_at m) (s : SelvesIn e w₁ m v) (n : ForgottenIn w₁ w₂) where
  selves_outside : Outside next_at none_at e w₂
  selves_outside = outside_then (outside_wider (omega arith) (omega arith) s.outside) (outside_wider (omega arith) (omega arith) n.outside)

  links : SameChains m (tables w₁) (tables w₂)
  links = same_chains (omega arith) n.outside m z.items

  -- the matrix there is that of the links
  module _ (g : Graph) (k : Matrix links_at e (Link g)) where
    sound : Within m (Pairs links_at w₂) (Link g)
    sound a b al bl p = k.sound a b (omega (arith, z.items)) (omega (arith, z.items)) (back z (omega arith) selves_outside a b al bl p)

    complete : Within m (Link g) (Pairs links_at w₂)
    complete a b al bl l = forth z (omega arith) selves_outside a b al bl (k.complete a b (omega (arith, z.items)) (omega (arith, z.items)) l)

  pub looped : {w : List ℕ} → ExtendedIn w₂ w links_at m v → LoopedIn e w m v
  looped {w} h =
      record {
        outside = outside_then selves_outside h.outside;
        shrunk = λ g ends i k way. (tables w₁, s.selves, go g ends i k way h.change);
      }
    where
      go : (g : Graph) → EndsBelow g → g.n ≡ m → Matrix links_at e (Link g) → Way g v v
          → SameChains m (tables w₂) (tables w) ⊎ Shrunk m (Pairs links_at w₂) (tables w₂) (tables w) → Shrunk m (Link g) (tables w₁) (tables w)
      go g ends i k way (inr f) = shrunk_within (sound g k) (shrunk_from links f)
      go g ends i k way (inl f) =
          let j : Selves g.n (tables w₁) v = rw i s.selves in
          let l : SameChains g.n (tables w₁) (tables w) = rw i (links_then links f) in
          let x : Dead g.n (Link g) (tables w) (deads w) (v + 1) =
          rw i (dead_moved (sound g k) (complete g k) chains_none (λ b bl. refl) h.dead) in
          absurd (no_way_back ends j l x way)
