-- `report::answer` meets its contract: where a loop is shown it is the answer, and else the items are listed and paired, the chains are joined and
-- written as a report. Assumes nothing.
use mathlib.Core.Path.{sym, ap, subst}
use mathlib.Core.List.{List}
use Prim.Native.Nat.{ℕ}
use native.Mathlib.Omega.{arith}
use lib.ListN.{length}
use Rattle.report.specs.Report.{ShowsReport}
use Rattle.report.specs.Solving.{Ready}
use Rattle.writing.specs.Writing.{ReportRoom}
use Rattle.report.proofs.Answers.{loop_room, items_few, ready_listed, none_below, none_behind, items_sized, solved, report_answered}
use Rattle.report.proofs.answer.Goals as goal

pub show_loop-requires : goal.show_loop-requires
show_loop-requires c =
    let (g, ready, room) = c.requires in
    (g, ready, loop_room room)

pub list-m-requires : goal.list-m-requires
list-m-requires c =
    let (g, before, room) = c.requires in
    let none = rw c.in_default.is at (c.show_loop.ensures g before) in
    let ready = subst (λ (x : List ℕ). Ready g c.args.n x) (sym none.2) before in
    (ready.long, omega (arith, ready.few), items_few ready)

pub pair-requires : goal.pair-requires
pair-requires c =
    let (g, before, room) = c.requires in
    let none = rw c.in_default.is at (c.show_loop.ensures g before) in
    let ready = subst (λ (x : List ℕ). Ready g c.args.n x) (sym none.2) before in
    let listed = c.list-m.ensures.listed in
    (listed, none_below (ready_listed ready c.list-m.ensures.outside) listed)

pub join-requires : goal.join-requires
join-requires c =
    let (g, before, room) = c.requires in
    let none = rw c.in_default.is at (c.show_loop.ensures g before) in
    let ready = ready_listed (subst (λ (x : List ℕ). Ready g c.args.n x) (sym none.2) before) c.list-m.ensures.outside in
    let listed = c.list-m.ensures.listed in
    (items_sized ready listed c.pair.ensures, none_behind ready listed c.pair.ensures)

pub write_report-requires : goal.write_report-requires
write_report-requires c =
    let (g, before, room) = c.requires in
    let none = rw c.in_default.is at (c.show_loop.ensures g before) in
    let ready = ready_listed (subst (λ (x : List ℕ). Ready g c.args.n x) (sym none.2) before) c.list-m.ensures.outside in
    let listed = c.list-m.ensures.listed in
    (g, solved ready listed c.pair.ensures none.0 c.join.ensures, subst (λ (k : ℕ). ReportRoom g k) (sym (ap length none.1)) room)

pub returns : goal.returns
returns c =
    λ g before.
    let none = rw c.in_default.is at (c.show_loop.ensures g before) in
    let ready = ready_listed (subst (λ (x : List ℕ). Ready g c.args.n x) (sym none.2) before) c.list-m.ensures.outside in
    subst (λ (o : List ℕ). ShowsReport g c.write_report.result o c.write_report.new.out) none.1
    (report_answered ready c.list-m.ensures.listed c.pair.ensures none.0 c.join.ensures c.write_report.ensures)
