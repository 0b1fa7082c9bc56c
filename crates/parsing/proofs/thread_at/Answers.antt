-- `parsing::thread_at` meets its contract: behind the `i` threads before it stands thread `i`.
-- Assumes nothing.
use mathlib.Core.Path.{ap, ◌∙◌}
use Prim.Native.Nat.{min}
use Rattle.std.proofs.Common.{rules, ◌≡◌, List, ℕ, ◌+◌, ◌<◌, Option, None, Some, unwrap_or, get_or, arith}
use Rattle.logs.specs.Words.{number}
use Rattle.parsing.specs.Whole.{HasThread}
use Rattle.std.specs.Option.{IsSome}
use Rattle.parsing.specs.Parsing.{apart_count, ThreadAt}
use Rattle.parsing.proofs.Wholes.{report_head, report_apart, report_room, report_thread, thread_room}
use Rattle.parsing.proofs.thread_at.Goals as goal

pub threads_end-requires : goal.threads_end-requires
threads_end-requires c =
    let has = c.requires in
    let room = report_room c.args.report.now has.0 has.1 has.2 in
    (omega arith, omega arith)

some_place : (o : Option ℕ) → 0 < unwrap_or o 0 → IsSome o
some_place None h = absurd (omega arith)
some_place (Some x) h = search rules

-- a whole report has at most as many apart words as its width says
all_counted : (ws : List ℕ) (i n : ℕ) (has : HasThread ws i) → n ≡ min (apart_count ws) (number (get_or ws 0 0) + 1) → n ≡ apart_count ws
all_counted ws i n has e = omega (arith, e, has.2.few, (report_head ws has.0 has.1 has.2).1, report_apart ws has.0 has.1 has.2)

pub unwrap-requires : goal.unwrap-requires
unwrap-requires c =
    let has = c.requires in
    let counted = all_counted c.args.report.now c.args.i _ has (c.apart_count-apart.ensures.count ∙ ap (λ (k : ℕ). min (apart_count c.args.report.now) (k + 1)) c.width.ensures) in
    let there = report_thread c.args.report.now has.0 has.1 has.2 c.apart_count-apart.result _ _ counted c.threads_end.ensures (omega (arith, has.3)) in
    some_place c.threads_end.result (omega (arith, there.0))

pub returns : goal.returns
returns c =
    let has = c.requires in
    let a = c.args in
    let counted = all_counted a.report.now a.i _ has (c.apart_count-apart.ensures.count ∙ ap (λ (k : ℕ). min (apart_count a.report.now) (k + 1)) c.width.ensures) in
    let there : ThreadAt a.report.now a.i c.unwrap.result =
    λ apart threads report lt.
    report_thread a.report.now apart threads report c.apart_count-apart.result a.i c.unwrap.result counted
    (rw c.unwrap.ensures at c.threads_end.ensures) lt in
    record { there = there; room = thread_room a.report.now has.0 has.1 has.2 a.i c.unwrap.result has.3 there }
