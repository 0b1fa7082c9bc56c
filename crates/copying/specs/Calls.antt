-- The links of a graph written by calls, one for each episode.
use Rattle.std.specs.Prelude.{◌≡◌, List, ℕ, zero, suc, ◌<◌, length}
use Rattle.std.specs.Borrow.{MutBor}
use Rattle.paths.specs.Graph.{Graph}
use Rattle.copying.specs.FairCopy.{linked_to, group}
use Rattle.copying.specs.Copying.{LinksWritten}

-- `o` has room for the group of `a`, and for a word more
abbrev pub RoomFor : (ℕ → ℕ → ℕ) → Graph → ℕ → List ℕ → Type 0
RoomFor pause g a o = length (group a (pause a) (linked_to a g.links g.n)) < length o

-- `pre f a o` says that `f` may be called for the group of `a`, `step f a o r o' f'` that such a call gives `r` and leaves `o'` and `f'`
module _ {F : Type 0} (pre : F → ℕ → MutBor (List ℕ) → Type 0) (step : F → ℕ → MutBor (List ℕ) → ℕ → MutBor (List ℕ) → F → Type 0)
    (pause : ℕ → ℕ → ℕ) (g : Graph) where
  -- calls for the episodes below `a`, rising, each with room for its group, lead from `f` to `f'`
  abbrev pub CalledBelow : F → ℕ → F → Type 0
  CalledBelow f zero f' = f ≡ f'
  CalledBelow f (suc a) f' = (e : F) × (o o' : MutBor (List ℕ)) × (r : ℕ) × CalledBelow f a e × RoomFor pause g a o.now × step e a o r o' f'

  -- called for each episode in turn, `f` writes its links
  pub record WritesLinks (f : F) : Type 0 where
    pub may : (a : ℕ) (e : F) (o : MutBor (List ℕ)) → CalledBelow f a e → a < g.n → RoomFor pause g a o.now → pre e a o
    pub writes : (a r : ℕ) (e e' : F) (o o' : MutBor (List ℕ)) → CalledBelow f a e → a < g.n → RoomFor pause g a o.now → step e a o r o' e'
        → LinksWritten (pause a) (linked_to a g.links g.n) o.now o'.now r
