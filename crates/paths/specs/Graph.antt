-- A log's graph with the voices of its episodes, its threads, covers, apart sets and loops. The line above a definition says what it is in the words
-- of the scope and, behind the colon, which term of the field that is.
use Rattle.std.specs.Prelude.{◌≡◌, ◌⊎◌, ◌↔◌, Bool, true, false, ◌||◌, ℕ, suc, ◌+◌, ◌≤◌, ◌<◌, eqb, length}
use mathlib.Core.List.{List, [], ◌∷◌, ◌++◌, Memᴰ as Mem, Nodup, IsChain}
use Rattle.order.specs.Order.{All, Chain, Antichain}

-- the episodes 0 to n - 1, the links in the order in which they were read, repeats included, and how many voices each episode has: a directed
-- multigraph with weighted vertices
pub record Graph : Type 0 where
  pub n : ℕ
  pub links : List (ℕ × ℕ)
  pub voices : ℕ → ℕ

-- an episode of the graph: a vertex
abbrev pub Episode : Graph → ℕ → Type 0
Episode g v = v < g.n

-- a link from `a` to `b`: an edge
abbrev pub Link : Graph → ℕ → ℕ → Type 0
Link g a b = Mem (a, b) g.links

-- both ends of every link are episodes
abbrev pub EndsBelow : Graph → Type 0
EndsBelow g = (a b : ℕ) → Link g a b → Episode g a × Episode g b

-- the same episodes with as many voices, and the same set of links: equal but for the order and the repeats of links
pub record SameLinks (g h : Graph) : Type 0 where
  pub episodes : g.n ≡ h.n
  pub voices : (v : ℕ) → Episode g v → g.voices v ≡ h.voices v
  pub links : (a b : ℕ) → Link g a b ↔ Link h a b

-- `a` has a way to `b`, one or more links lead from `a` to `b`: reachability by a walk that is not empty
pub data Way (g : Graph) : ℕ → ℕ → Type 0 where
  one : {a b : ℕ} → Link g a b → Way g a b
  step : {a b c : ℕ} → Link g a b → Way g b c → Way g a c

-- no episode has a way to itself: the graph is acyclic
abbrev pub Acyclic : Graph → Type 0
Acyclic g = (v : ℕ) → Way g v v → ⊥

-- a thread, one or more episodes, each next pair a link: a path
pub record Thread (g : Graph) (t : List ℕ) : Type 0 where
  pub episodes : All (Episode g) t
  pub path : Chain (Link g) t

-- whether `v` is one of the numbers
unfoldable pub member : ℕ → List ℕ → Bool
member v [] = false
member v (x ∷ l) = eqb v x || member v l

-- how many of the threads pass `v`, equal ones counted each
unfoldable pub passing_threads : ℕ → List (List ℕ) → ℕ
passing_threads v [] = 0
passing_threads v (t ∷ ts) = elim (member v t) [ true ↦ suc (passing_threads v ts) | false ↦ passing_threads v ts ]

-- a cover, threads of which at least as many pass each episode as it has voices; they may share episodes, and equal ones count each: a path cover
-- with demands
pub record Cover (g : Graph) (ts : List (List ℕ)) : Type 0 where
  pub threads : All (Thread g) ts
  pub enough : (v : ℕ) → Episode g v → g.voices v ≤ passing_threads v ts

-- the steps of all threads together
unfoldable pub total_steps : List (List ℕ) → ℕ
total_steps [] = 0
total_steps (t ∷ ts) = length t + total_steps ts

-- an apart set, episodes with voices, none twice and none with a way to another: an antichain of reachability
pub record Apart (g : Graph) (s : List ℕ) : Type 0 where
  pub episodes : All (Episode g) s
  pub voiced : All (λ v. 1 ≤ g.voices v) s
  pub antichain : Antichain (Way g) s

-- the voices of some episodes together: the weight of a set of vertices
unfoldable pub weight : Graph → List ℕ → ℕ
weight g [] = 0
weight g (v ∷ s) = g.voices v + weight g s

-- no cover has fewer threads: a minimum path cover
abbrev pub Smallest : Graph → List (List ℕ) → Type 0
Smallest g ts = (us : List (List ℕ)) → Cover g us → length ts ≤ length us

-- no apart set has more voices: a maximum-weight antichain
abbrev pub Heaviest : Graph → List ℕ → Type 0
Heaviest g s = (r : List ℕ) → Apart g r → weight g r ≤ weight g s

-- `k` is the size of the smallest cover: the width
abbrev pub Width : Graph → ℕ → Type 0
Width g k = (ts : List (List ℕ)) × Cover g ts × Smallest g ts × (length ts ≡ k)

-- `s` is at least as far along as `r`, each member of `s` is in `r` or some member of `r` has a way to it: `s` dominates `r`
abbrev pub Along : Graph → List ℕ → List ℕ → Type 0
Along g r s = All (λ b. Mem b r ⊎ ((a : ℕ) × Mem a r × Way g a b)) s

-- the heaviest apart set that is at least as far along as every other heaviest one: the right-most maximum-weight antichain
pub record Furthest (g : Graph) (s : List ℕ) : Type 0 where
  pub apart : Apart g s
  pub heaviest : Heaviest g s
  pub along : (r : List ℕ) → Apart g r → Heaviest g r → Along g r s

-- rising, each number less than the next: strictly sorted
abbrev pub Rising : List ℕ → Type 0
Rising = IsChain ◌<◌

-- a loop, one or more different episodes, each linked to the next and the last to the first: a directed cycle
pub record Loop (g : Graph) (c : List ℕ) : Type 0 where
  pub first : ℕ
  pub others : List ℕ
  pub parts : c ≡ first ∷ others
  pub episodes : All (Episode g) c
  pub once : Nodup c
  pub closed : Chain (Link g) (c ++ first ∷ [])
