-- `report::report_within` meets its contract: on each way out the questions have been answered as the outcome says, and the buffers are
-- as it says. Assumes nothing.
use mathlib.Core.Path.{sym, subst}
use mathlib.Core.List.{List}
use Prim.Native.Nat.{ℕ}
use Rattle.logs.specs.Log.{graph_of}
use Rattle.report.specs.Solving.{Answered}
use lib.ListN.{length}
use Rattle.writing.specs.Writing.{ReportRoom}
use Rattle.report.proofs.Voices.{room}
use Rattle.report.proofs.Calls.{passed, passed_few, left_answered, work_cleared}
use Rattle.report.proofs.report_within.Goals as goal

pub solve-requires : goal.solve-requires
solve-requires c =
    let a = c.args in
    let l = c.in-Ok.log in
    let yes = sym c.in-Ok.ensures.answer in
    let (read, enough, work) = passed _ _ _ _ _ _ yes in
    let fits : ReportRoom (graph_of l.words.now) (length a.out.now) =
    subst (λ (u : List ℕ). ReportRoom (graph_of u) (length a.out.now)) (sym c.in-Ok.ensures.same) (room a.most a.log.now l.episodes l.to_words _ read enough) in
    (passed_few _ _ _ _ _ _ yes c.requires, λ o v same ready. (graph_of l.words.now, ready, rw same fits))

pub returns-in-Ok : goal.returns-in-Ok
returns-in-Ok c =
    let a = c.args in
    let (o, v, o', v', same, ready, answered, left) = c.solve.ensures.answered in
    left_answered a.most a.log.now a.out.now a.work.now _ _ (sym c.in-Ok.ensures.answer) c.solve.new.out c.solve.result
    (subst (λ (u : List ℕ). Answered (graph_of u) a.out.now c.solve.new.out c.solve.result) c.in-Ok.ensures.same
    (rw (← same, left) (answered (graph_of c.in-Ok.log.words.now) ready)))
    (work_cleared a.work.now c.solve.new.w c.solve.ensures.cleared)
