-- From the links of a log to its ways.
use mathlib.Core.Path.{◌≡◌, ◌∙◌}
use mathlib.Core.List.{List, ◌++◌}
use Prim.Native.Nat.{ℕ, ◌≤◌}
use native.Mathlib.Omega.{arith}
use lib.ListN.{drop}
use Rattle.std.specs.Array.{IsFirstChunk}
use Rattle.paths.specs.Graph.{Graph, EndsBelow, Link}
use Rattle.logs.specs.Log.{graph_of, PassesWith}
use Rattle.logs.proofs.Laws.{graph_episodes, links_below}
use Rattle.bits.specs.Work.{links_at, ways_at, Matrix, MatrixCopied, items_at}
use Rattle.bits.proofs.Frames.{outside_then, outside_wider, matrix_before}
use Rattle.rising.specs.Rising.{NoWays, BitsRise, LinksRise}
use Rattle.rising.proofs.Front.{matrix_same, matrix_all, outside_all}
use Rattle.reach.specs.Reach.{NoneMarked, LinksMarked, LinksCopied, Closed, WaysReached, ReachedLog}

-- ---- links that rise

links_rise : (w : List ℕ) (n : ℕ) (g : Graph) → n ≤ 256 → EndsBelow g → g.n ≡ n → Matrix links_at w (Link g) → BitsRise w n → LinksRise g
links_rise w n g few ends e m rise a b l =
    let (ha, hb) = ends a b l in
    (rise a b (omega arith) (omega arith) (m.complete a b (omega arith) (omega arith) l), omega arith)

-- ---- other links: copied and closed

pub copied : {w w' : List ℕ} → MatrixCopied w w' links_at ways_at → LinksCopied w w'
copied c = record { outside = c.outside; words = c.words }

pub closed_reached : (w w' w'' : List ℕ) (n : ℕ) → LinksCopied w w' → Closed w' w'' n → WaysReached w w'' n
closed_reached w w' w'' n c q =
    record { outside = outside_then c.outside q.outside; ways = λ g ends e m. q.ways g ends e (matrix_same links_at ways_at c.words m) }

-- ---- the whole

-- marking links marks no way
pub no_ways : (l w w' : List ℕ) → NoneMarked w → LinksMarked l w w' → NoWays w'
no_ways l w w' none p i lo hi = p.outside.behind i lo ∙ none i hi

-- from the front of the words to all
pub reached : {w f f' f'' : List ℕ} (l : List ℕ) (n t : ℕ) → PassesWith l n t → IsFirstChunk w f items_at → LinksMarked l f f' → WaysReached f' f'' n
    → ReachedLog l w (f'' ++ drop items_at w)
reached {f'' = f''} l n t e s p q =
    let o = outside_then (outside_wider {lo' = links_at} {hi' = items_at} (omega arith) (omega arith) p.outside) (outside_wider (omega arith) (omega arith) q.outside) in
    record {
      outside = outside_all s f'' o;
      links = matrix_all s f'' o links_at (omega arith) (matrix_before (omega arith) q.outside p.links);
      ways = matrix_all s f'' o ways_at (omega arith) (q.ways (graph_of l) (links_below _ l n t e) (graph_episodes _ l n t e) p.links);
    }
