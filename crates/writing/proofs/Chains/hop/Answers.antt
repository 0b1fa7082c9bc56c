use Rattle.std.proofs.Common.{arith}
use Rattle.std.proofs.lemmas.Bool.Decides.{nat_tests}
use Rattle.bits.specs.Work.{ways_at}
use Rattle.bits.proofs.Rows.{bit_column}
use Rattle.writing.proofs.Hops.{hop_next, hop_done, hop_nearer}
use Rattle.writing.proofs.Chains.hop.Goals as goal

pub returns-then-digit_at : goal.returns-then-digit_at
returns-then-digit_at c =
    hop_nearer c.loop-x.invariant.2 c.in-Some.ensures.steps
    (grind (arith, nat_tests, bit_column c.args.self.now.words.now ways_at c.in-Some.x c.args.b))

pub loop-x-preserved : goal.loop-x-preserved
loop-x-preserved c = (
  tt,
  tt,
  hop_next c.loop-x.invariant.2 c.in-Some.ensures.steps
      (λ e. grind (arith, nat_tests, bit_column c.args.self.now.words.now ways_at c.in-Some.x c.args.b)),
)

pub returns : goal.returns
returns c =
    let p = c.requires in
    absurd (hop_done c.loop-x.invariant.2 c.args.self.now.solved p.0 p.1 p.2 (λ e. grind (arith, nat_tests)) c.in-None.ensures.steps.0)
