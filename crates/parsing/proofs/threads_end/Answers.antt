use Prim.Native.Nat.{◌<◌}
use native.Mathlib.Omega.{arith}
use Rattle.parsing.proofs.ThreadParse.{threads_none, threads_more, threads_missing}
use Rattle.parsing.proofs.threads_end.Goals as goal

pub loop-init : goal.loop-init
loop-init c = let a = c.args in (omega arith, threads_none a.report.now a.at (omega arith))

pub returns-in_err-place : goal.returns-in_err-place
returns-in_err-place c =
    let l = c.loop in
    let a = c.args in
    rw c.from_residual.ensures
    (threads_missing a.report.now a.at a.k l.counter l.place (omega arith) l.invariant.0 l.invariant.1 c.in_err-place.ensures.end)

pub loop-preserved : goal.loop-preserved
loop-preserved c =
    let l = c.loop in
    let a = c.args in
    let next = c.in_ok-place in
    let some : 0 < next.place = omega (arith, next.ensures.behind) in
    (some, threads_more a.report.now a.at l.counter l.place next.place l.invariant.0 l.invariant.1 next.ensures.end some)
