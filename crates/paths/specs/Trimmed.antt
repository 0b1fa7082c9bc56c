-- Graphs with the same ways, and a graph without the links that others imply.
use Rattle.std.specs.Prelude.{◌≡◌, ◌↔◌, List, [], ◌∷◌, ◌++◌, ℕ}
use Rattle.paths.specs.Graph.{Graph, Episode, Link, Way, Thread}

-- the same episodes with as many voices, and the same ways: equal but for links that others imply
pub record SameWays (g h : Graph) : Type 0 where
  pub episodes : g.n ≡ h.n
  pub voices : (v : ℕ) → Episode g v → g.voices v ≡ h.voices v
  pub ways : (a b : ℕ) → Way g a b ↔ Way h a b

-- the link from `a` to `b` stays: whatever thread leads from `a` to `b`, nothing stands between the two, it is `a b` itself
pub record Stays (g : Graph) (a b : ℕ) : Type 0 where
  pub link : Link g a b
  pub only : (between : List ℕ) → Thread g (a ∷ between ++ b ∷ []) → between ≡ []

-- `h` is `g` trimmed, it has the links that stay and no others: the transitive reduction of an acyclic graph
pub record Trimmed (g h : Graph) : Type 0 where
  pub episodes : h.n ≡ g.n
  pub voices : (v : ℕ) → Episode g v → h.voices v ≡ g.voices v
  pub links : (a b : ℕ) → Link h a b ↔ Stays g a b

-- a link from `a` and a way from there lead to `b`, so that the link from `a` to `b`, if there is one, does not stay
abbrev pub Implied : Graph → ℕ → ℕ → Type 0
Implied g a b = (c : ℕ) × Link g a c × Way g c b
