use Rattle.std.proofs.Math.Logic.{∥∥₁_elim}
use Rattle.std.proofs.Props.{props}
use mathlib.Core.Path.{sym}
use Rattle.writing.proofs.Starts.{start_none, start_more, start_less}
use Rattle.writing.proofs.Chains.start_of.Goals as goal

pub loop-before-init : goal.loop-before-init
loop-before-init c = start_none _ _

pub loop-before-smaller : goal.loop-before-smaller
loop-before-smaller c =
    let chains = c.args.self.now in
    ∥∥₁_elim chains.solved (search props)
    (λ (g, q). start_less c.in-Some.before chains.matching c.requires c.loop-before.invariant (sym c.in-Some.ensures) g q)

pub loop-before-preserved : goal.loop-before-preserved
loop-before-preserved c = start_more c.in-Some.before c.args.self.now.matching c.requires c.loop-before.invariant (sym c.in-Some.ensures)
