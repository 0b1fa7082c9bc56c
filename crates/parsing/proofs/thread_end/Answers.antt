-- `parsing::thread_end` meets its contract: where a test refuses, a thread would not have passed it; where all let through, a thread
-- stands there.
-- Assumes nothing.
use native.Mathlib.Omega.{arith}
use Rattle.std.proofs.lemmas.Bool.Decides.{nat_tests}
use Rattle.parsing.proofs.ThreadParse.{no_thread, tested_thread}
use Rattle.parsing.proofs.thread_end.Goals as goal

pub returns-in_err-head-clause-end : goal.returns-in_err-head-clause-end
returns-in_err-head-clause-end c =
    let a = c.args in
    rw c.from_residual.ensures (no_thread a.report.now a.at (λ n here. grind (arith, here.fits, c.in_err-head.ensures.lookup)))

pub returns-then-not-is_of-clause-end : goal.returns-then-not-is_of-clause-end
returns-then-not-is_of-clause-end c =
    let a = c.args in
    no_thread a.report.now a.at (λ n here. grind (arith, here.kind_six, nat_tests))

pub returns-in_err-steps-clause-end : goal.returns-in_err-steps-clause-end
returns-in_err-steps-clause-end c =
    let a = c.args in
    rw c.from_residual-in_err-steps.ensures
    (no_thread a.report.now a.at (λ n here. grind (arith, here.count, here.fits, c.in_err-steps.ensures.lookup)))

pub returns-then-is_empty-clause-end : goal.returns-then-is_empty-clause-end
returns-then-is_empty-clause-end c =
    let a = c.args in
    let part = c.in_ok-steps.ensures.lookup in
    no_thread a.report.now a.at (λ n here. grind (arith, nat_tests, here.count, here.some, part.0.3))

pub returns-clause-end : goal.returns-clause-end
returns-clause-end c =
    let a = c.args in
    let part = c.in_ok-steps.ensures.lookup in
    rw c.then_some.ensures
    (tested_thread a.report.now c.in_ok-steps.steps.now a.at c.number_of.result c.all_of_kind.result (grind (arith, nat_tests, part.0.3)) part.0.1
    (grind (arith, nat_tests)) (grind arith) part.0.2 c.all_of_kind.ensures)
