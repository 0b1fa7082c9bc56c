-- `parsing::is_whole` meets its contract: where a test refuses, a whole report would not have passed it; where all let through, the
-- words are one.
-- Assumes nothing.
use mathlib.Core.Path.{◌≡◌}
use Prim.Native.Nat.{◌-◌}
use native.Mathlib.Omega.{arith}
use lib.ListN.{length, get_or}
use Rattle.std.proofs.lemmas.Bool.Decides.{nat_tests}
use Rattle.logs.specs.Words.{number}
use Rattle.parsing.proofs.Wholes.{report_head, report_apart, report_ends, report_last, report_room, report_wide, whole_found, count_test, not_whole}
use Rattle.parsing.proofs.is_whole.Goals as goal

pub returns-in_default : goal.returns-in_default
returns-in_default c =
    let ws = c.args.report.now in
    not_whole ws (λ apart threads report. omega (arith, report_room ws apart threads report))

pub returns-then-not-is_of : goal.returns-then-not-is_of
returns-then-not-is_of c =
    let ws = c.args.report.now in
    not_whole ws (λ apart threads report. grind (arith, nat_tests, (report_head ws apart threads report).0))

pub returns-then-report-k : goal.returns-then-report-k
returns-then-report-k c =
    let ws = c.args.report.now in
    not_whole ws (λ apart threads report. omega (arith, report_wide ws apart threads report, (report_head ws apart threads report).1))

pub returns-then-k-apart : goal.returns-then-k-apart
returns-then-k-apart c =
    let ws = c.args.report.now in
    not_whole ws (λ apart threads report. omega (arith, report.few, (report_head ws apart threads report).1, report_apart ws apart threads report))

pub returns-in_default-threads_end : goal.returns-in_default-threads_end
returns-in_default-threads_end c =
    let ws = c.args.report.now in
    let n = c.apart_count-apart.result in
    let k = c.number_of-k.result in
    not_whole ws
    (λ apart threads report. omega (arith, report_ends ws apart threads report n k 0 (omega arith) (omega arith) c.in_default-threads_end.ensures))

pub returns-then-end-report : goal.returns-then-end-report
returns-then-end-report c =
    let ws = c.args.report.now in
    let n = c.apart_count-apart.result in
    let k = c.number_of-k.result in
    let ends = c.in-Some in
    not_whole ws (λ apart threads report. omega (arith, report_ends ws apart threads report n k ends.end (omega arith) (omega arith) ends.ensures))

pub returns-then-is_of : goal.returns-then-is_of
returns-then-is_of c =
    let ws = c.args.report.now in
    let n = c.apart_count-apart.result in
    let k = c.number_of-k.result in
    let ends = c.in-Some in
    let end = ends.end in
    let last : length ws - 1 ≡ end = omega arith in
    let count : c.number_of.result ≡ number (get_or ws end 0) = rw last at c.number_of.ensures in
    count_test ws c.number_of.result end
    (λ e.
    whole_found ws n k end (grind (arith, nat_tests)) (omega arith) (omega arith) (omega arith) (omega arith) ends.ensures (omega arith)
    (omega arith) (grind (arith, nat_tests)) (omega (arith, count)))
    (λ found. omega (arith, count, (report_last ws found.0 found.1 found.2 end (omega arith)).1))

pub returns-else-is_of : goal.returns-else-is_of
returns-else-is_of c =
    let ws = c.args.report.now in
    let end = c.in-Some.end in
    rw c.if-is_of.false (not_whole ws (λ apart threads report. grind (arith, nat_tests, (report_last ws apart threads report end (omega arith)).0)))
