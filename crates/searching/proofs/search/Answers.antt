use native.Mathlib.Omega.{arith}
use Rattle.searching.proofs.Looking.{looking_start, looking_more, looking_found, looking_end}
use Rattle.searching.proofs.search.Goals as goal

pub loop-head-init : goal.loop-head-init
loop-head-init c = looking_start c.requires.0 c.requires.1 c.requires.2

pub returns-in-Break-clause-searched : goal.returns-in-Break-clause-searched
returns-in-Break-clause-searched c =
    let (tail, low, shown) = c.in-Break.ensures in
    looking_found c.requires.0 c.loop-head.invariant shown low

pub loop-head-preserved : goal.loop-head-preserved
loop-head-preserved c = looking_more c.requires.0 c.loop-head.invariant c.in-Continue.ensures

pub returns-clause-searched : goal.returns-clause-searched
returns-clause-searched c = looking_end c.requires.0 c.loop-head.invariant (omega arith)
