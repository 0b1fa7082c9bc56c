-- Where every episode has one voice, covers, apart sets and what follows from them are those of the scope's own text: at least one thread passes an
-- episode exactly when the episode is on a thread, and some episodes have as many voices as they are many.
use mathlib.Core.Path.{◌≡◌, refl}
use mathlib.Core.Logic.{◌↔◌}
use mathlib.Core.List.Memᴰ.{head as here}
use mathlib.Core.List.Memᴰ.{tail as there}
use mathlib.Core.List.{List, [], ◌∷◌}
use Prim.Native.Nat.{ℕ}
use native.Mathlib.Omega.{arith}
use lib.ListN.{length}
use Rattle.order.specs.Order.{All}
use Rattle.paths.specs.Graph.{Graph, Episode, Cover, Apart, Smallest, Heaviest, Width, Furthest, weight}
use Rattle.paths.specs.OneVoice as one
use Rattle.paths.specs.OneVoice.{OneVoice}
use Rattle.paths.proofs.Counting.{on_passed, passed_on}

pub one_weight : (g : Graph) → OneVoice g → (s : List ℕ) → All (Episode g) s → weight g s ≡ length s
unfolding weight
one_weight g voices [] h = refl
one_weight g voices (v ∷ s) h = omega (arith, voices v (h v (here refl)), one_weight g voices s (λ x m. h x (there m)))

module _ {g : Graph} (voices : OneVoice g) where
  pub one_cover : (ts : List (List ℕ)) → Cover g ts ↔ one.Cover g ts
  one_cover ts = (
    λ c. record { threads = c.threads; whole = λ v h. passed_on ts (omega (arith, c.enough v h, voices v h)) },
    λ c. record { threads = c.threads; enough = λ v h. omega (arith, on_passed ts (c.whole v h), voices v h) },
  )

  pub one_apart : (s : List ℕ) → Apart g s ↔ one.Apart g s
  one_apart s = (
    λ a. record { episodes = a.episodes; antichain = a.antichain },
    λ a. record { episodes = a.episodes; voiced = λ v m. omega (arith, voices v (a.episodes v m)); antichain = a.antichain },
  )

  pub one_smallest : (ts : List (List ℕ)) → Smallest g ts ↔ one.Smallest g ts
  one_smallest ts = (λ h us c. h us ((one_cover us).1 c), λ h us c. h us ((one_cover us).0 c))

  pub one_largest : (s : List ℕ) → All (Episode g) s → Heaviest g s ↔ one.Largest g s
  one_largest s episodes = (
    λ h r a. omega (arith, h r ((one_apart r).1 a), one_weight g voices r a.episodes, one_weight g voices s episodes),
    λ h r a. omega (arith, h r ((one_apart r).0 a), one_weight g voices r a.episodes, one_weight g voices s episodes),
  )

  pub one_width : (k : ℕ) → Width g k ↔ one.Width g k
  one_width k = (
    λ (ts, c, s, e). (ts, (one_cover ts).0 c, (one_smallest ts).0 s, e),
    λ (ts, c, s, e). (ts, (one_cover ts).1 c, (one_smallest ts).1 s, e),
  )

  pub one_furthest_too : (s : List ℕ) → Furthest g s ↔ one.Furthest g s
  one_furthest_too s = (
    λ f. record {
      apart = (one_apart s).0 f.apart;
      largest = (one_largest s f.apart.episodes).0 f.heaviest;
      along = λ r a l. f.along r ((one_apart r).1 a) ((one_largest r a.episodes).1 l);
    },
    λ f. record {
      apart = (one_apart s).1 f.apart;
      heaviest = (one_largest s f.apart.episodes).1 f.largest;
      along = λ r a l. f.along r ((one_apart r).0 a) ((one_largest r a.episodes).0 l);
    },
  )
