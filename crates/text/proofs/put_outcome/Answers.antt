-- `text::put_outcome` meets its contract, outcome by outcome.
-- Assumes nothing.
use Rattle.std.proofs.Common.{◌≡◌, ◌+◌, ◌-◌, sym, arith}
use Rattle.std.proofs.lemmas.List.{length-take-le}
use Rattle.text.specs.Text.{outcome_text}
use Rattle.text.proofs.Outcomes.{shown_report, shown_loop}
use Rattle.text.proofs.put_outcome.Goals as goal

pub slice_bounds-put_report_on-end : goal.slice_bounds-put_report_on-end
slice_bounds-put_report_on-end c =
    sym (length-take-le _ _ (shown_report c.args.log.now c.args.out.now c.args.outcome c.requires.1 c.in-Report.count c.in-Report.is).1)

pub put_report_on-requires : goal.put_report_on-requires
put_report_on-requires c =
    let shown = shown_report c.args.log.now c.args.out.now c.args.outcome c.requires.1 c.in-Report.count c.in-Report.is in
    (shown.0, omega (arith, shown.2, c.requires.0))

pub overflow_add-length : goal.overflow_add-length
overflow_add-length c =
    let shown = shown_loop c.args.log.now c.args.out.now c.args.outcome c.requires.1 c.in-Loop.length c.in-Loop.is in
    omega (arith, shown.0)

pub slice_bounds-put_loop-end : goal.slice_bounds-put_loop-end
slice_bounds-put_loop-end c = (shown_loop c.args.log.now c.args.out.now c.args.outcome c.requires.1 c.in-Loop.length c.in-Loop.is).0

pub put_loop-requires : goal.put_loop-requires
put_loop-requires c =
    let shown = shown_loop c.args.log.now c.args.out.now c.args.outcome c.requires.1 c.in-Loop.length c.in-Loop.is in
    let same : c.in-Loop.length + 1 - 1 ≡ c.in-Loop.length = omega arith in
    (omega (arith, c.requires.0), rw same (omega (arith, shown.1, c.requires.0)))

pub put_refusal-requires : goal.put_refusal-requires
put_refusal-requires c = omega (arith, c.requires.0)

pub returns-in-Report : goal.returns-in-Report
unfolding outcome_text
returns-in-Report c = rw c.in-Report.is c.put_report_on.ensures

pub returns-in-Loop : goal.returns-in-Loop
unfolding outcome_text
returns-in-Loop c =
    let same : c.in-Loop.length + 1 - 1 ≡ c.in-Loop.length = omega arith in
    rw c.in-Loop.is (rw same at c.put_loop.ensures)

pub returns-in-Refused : goal.returns-in-Refused
unfolding outcome_text
returns-in-Refused c = rw c.in-Refused.is c.put_refusal.ensures
