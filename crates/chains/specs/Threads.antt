-- Threads that hold the owners of chains of items.
use Rattle.std.specs.Prelude.{◌⊎◌, ℕ, ◌<◌}
use mathlib.Core.List.{List, [], ◌∷◌, Memᴰ as Mem}
use Rattle.paths.specs.Graph.{Graph, Thread}
use Rattle.paths.specs.Items.{item_count, owner}
use Rattle.searching.specs.Items.{Steps}

-- `th` is a thread that holds the owners of the chain of the item `v`
pub record ThreadOf (g : Graph) (next : ℕ → ℕ) (v : ℕ) (th : List ℕ) : Type 0 where
  pub thread : Thread g th
  pub holds : (x : ℕ) → x < item_count g → Steps next x v ⊎ Steps next v x → Mem (owner g x) th

-- `ts` are such threads of `vs`, one for each
unfoldable pub ThreadsOf : Graph → (ℕ → ℕ) → List ℕ → List (List ℕ) → Type 0
ThreadsOf g next [] [] = Unit {0}
ThreadsOf g next [] (th ∷ ts) = ⊥
ThreadsOf g next (v ∷ vs) [] = ⊥
ThreadsOf g next (v ∷ vs) (th ∷ ts) = ThreadOf g next v th × ThreadsOf g next vs ts
