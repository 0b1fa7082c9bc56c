-- `next` of the bits of a word meets its contract: the lowest is taken out.
-- Assumes nothing.
use native.Mathlib.Omega.{arith}
use Rattle.bits.proofs.Digits.{lowest_taken, lowest_less}
use Rattle.bits.proofs.ones.OnesIterator.next.Goals as goal

pub returns-clause-steps : goal.returns-clause-steps
returns-clause-steps c = lowest_taken c.args.self.now.rest (omega arith) (omega arith)

pub returns-clause-goes : goal.returns-clause-goes
returns-clause-goes c =
    let less = lowest_less c.args.self.now.rest (omega arith) (omega arith) in
    record { on = λ f. (tt, tt, less); keeps = tt; rests = λ f. tt }
