-- `threads::find_thread` meets its contract: on each way out the tests have found what its answer says.
-- Assumes nothing.
use native.Mathlib.Omega.{arith}
use Rattle.threads.proofs.ThreadCalls.{has_below, has_thread, no_thread, a_thread, no_stretch, its_stretch}
use Rattle.threads.proofs.find_thread.Goals as goal

pub returns-then-k-i-clause-number : goal.returns-then-k-i-clause-number
returns-then-k-i-clause-number c =
    rw c.at-then-k-i.ensures
    (no_thread c.args.report.now c.args.i (c.is_whole.ensures.whole c.if-not-is_whole.false) (omega arith))

pub returns-then-k-i-clause-stretch : goal.returns-then-k-i-clause-stretch
returns-then-k-i-clause-stretch c =
    let a = c.args in
    no_stretch a.report.now a.i (λ has. omega (arith, has_below a.report.now a.i has))

pub thread_at-at-requires : goal.thread_at-at-requires
thread_at-at-requires c = has_thread c.args.report.now c.args.i (c.is_whole.ensures.whole c.if-not-is_whole.false) (omega arith)

pub returns-clause-number : goal.returns-clause-number
returns-clause-number c =
    let a = c.args in
    a_thread a.report.now a.i (has_thread a.report.now a.i (c.is_whole.ensures.whole c.if-not-is_whole.false) (omega arith))

pub returns-clause-stretch : goal.returns-clause-stretch
returns-clause-stretch c =
    let a = c.args in
    let at = c.thread_at-at in
    its_stretch a.report.now a.i (has_thread a.report.now a.i (c.is_whole.ensures.whole c.if-not-is_whole.false) (omega arith))
    at.result _ _ at.ensures.there at.ensures.room (omega arith) (omega arith)
