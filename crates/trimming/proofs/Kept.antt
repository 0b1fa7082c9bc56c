-- The graph of the links that stay, with the voices as they were.
use mathlib.Core.Path.{refl}
use Prim.Native.Nat.{ℕ, ◌≤◌}
use lib.ListN.{length}
use Rattle.order.proofs.Lists.{filter_sound, filter_complete, filter_length}
use Rattle.paths.specs.Graph.{Graph}
use Rattle.paths.specs.Trimmed.{Trimmed}
use Rattle.paths.proofs.Theorems.{stays_decidable}
use Rattle.trimming.specs.TrimmedCopy.{trimmed}

module _ (g : Graph) where
  -- it has the links that stay and no others
  pub trimmed_is : Trimmed g (trimmed g)
  unfolding trimmed
  trimmed_is =
      record {
        episodes = refl;
        voices = λ v h. refl;
        links = λ a b. (
          λ m. (filter_sound (λ (l : ℕ × ℕ). stays_decidable g l.0 l.1) g.links m).1,
          λ s. filter_complete (λ (l : ℕ × ℕ). stays_decidable g l.0 l.1) g.links s.link s,
        );
      }

  -- and not more links than there were
  pub trimmed_few : length (trimmed g).links ≤ length g.links
  unfolding trimmed
  trimmed_few = filter_length (λ (l : ℕ × ℕ). stays_decidable g l.0 l.1) g.links
