-- What a log tells, apart from its words: its version, the episodes, the voices of each, and the links that were heard, each with a pause. Which
-- links count, and the graph of these, follow from it.
use Rattle.std.specs.Prelude.{◌≡◌, ◌↔◌, Bool, true, ◌||◌, ℕ, ◌≤◌, ◌<◌, min, leb, eqb}
use Rattle.std.proofs.Math.Logic.Dec
use Rattle.std.proofs.Math.Bool.{Bool-discrete}
use mathlib.Core.List.{List, [], ◌∷◌, map, filter, Memᴰ as Mem}
use Rattle.std.proofs.Math.Decide.{ℕ_discrete}
use Rattle.paths.specs.Graph.{Graph}

-- a link as a to word gives it: the earlier episode, the later one, and the minutes between them
pub record Heard : Type 0 where
  pub from : ℕ
  pub to : ℕ
  pub pause : ℕ

-- the version, the episodes 0 to n - 1, the voices of each, and the links that were heard, in the order read
pub record Content : Type 0 where
  pub version : ℕ
  pub n : ℕ
  pub voices : ℕ → ℕ
  pub heard : List Heard

-- a link that was heard, without its pause
abbrev pub joins : Heard → ℕ × ℕ
joins h = (h.from, h.to)

-- the episodes with their voices and all links that were heard, pauses left out
abbrev pub heard_graph : Content → Graph
heard_graph c = record { n = c.n; links = map joins c.heard; voices = c.voices }

-- the link from `a` to `b` was heard with the pause `p`
abbrev pub HeardOf : Content → ℕ → ℕ → ℕ → Type 0
HeardOf c a b p = Mem (record { from = a; to = b; pause = p }) c.heard

-- `p` is the least pause of the link from `a` to `b`, over all to words that give it
pub record LeastPause (c : Content) (a b p : ℕ) : Type 0 where
  pub heard : HeardOf c a b p
  pub least : (q : ℕ) → HeardOf c a b q → p ≤ q

-- the same version, the same episodes with as many voices, the same set of links that were heard, and the same least pause of each
pub record SameContent (c d : Content) : Type 0 where
  pub versions : c.version ≡ d.version
  pub episodes : c.n ≡ d.n
  pub voices : (v : ℕ) → v < c.n → c.voices v ≡ d.voices v
  pub links : (a b : ℕ) → ((p : ℕ) × HeardOf c a b p) ↔ ((p : ℕ) × HeardOf d a b p)
  pub pauses : (a b p : ℕ) → LeastPause c a b p ↔ LeastPause d a b p

-- the pauses that were heard of the link from `a` to `b`, in the order read
unfoldable pub pauses_of : ℕ → ℕ → List Heard → List ℕ
pauses_of a b hs = map (λ (h : Heard). h.pause) (filter (λ (h : Heard). Dec.and (ℕ_discrete a h.from) (ℕ_discrete b h.to)) hs)

-- the least of some numbers; 0 of none
unfoldable pub least : List ℕ → ℕ
least [] = 0
least (p ∷ []) = p
least (p ∷ q ∷ ps) = min p (least (q ∷ ps))

-- the least pause of the link from `a` to `b`; 0 where it was not heard
abbrev pub least_pause : Content → ℕ → ℕ → ℕ
least_pause c a b = least (pauses_of a b c.heard)

-- the longest pause with which a link of version 1 counts, in minutes
abbrev pub longest_pause : ℕ
longest_pause = 360

-- whether a pause of `p` minutes lets a link count: in version 0 each does, in version 1 none that is longer than that; other versions do not pass
abbrev pub short_enough : ℕ → ℕ → Bool
short_enough v p = eqb v 0 || leb p longest_pause

-- the links that count: those whose least pause lets them
unfoldable pub counting : Content → List Heard
counting c = filter (λ (h : Heard). Bool-discrete (short_enough c.version (least_pause c h.from h.to)) true) c.heard

-- the graph: the episodes with their voices and the links that count, pauses left out
abbrev pub graph : Content → Graph
graph c = record { n = c.n; links = map joins (counting c); voices = c.voices }

-- the links among `hs` that count by their own pause, in version `v`
unfoldable pub short_of : ℕ → List Heard → List Heard
short_of v hs = filter (λ (h : Heard). Bool-discrete (short_enough v h.pause) true) hs
