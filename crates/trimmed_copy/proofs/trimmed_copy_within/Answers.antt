-- `trimmed_copy::trimmed_copy_within` meets its contract: on each way out the questions have been answered as the outcome says, and the buffers
-- are as it says. Assumes nothing.
use mathlib.Core.Path.{sym, subst}
use mathlib.Core.List.{List}
use Prim.Native.Nat.{ℕ}
use native.Mathlib.Omega.{arith}
use lib.ListN.{length}
use Rattle.logs.specs.Log.{graph_of}
use Rattle.logs.proofs.Laws.{few_episodes}
use Rattle.report.proofs.Calls.{work_cleared}
use Rattle.trimmed_copy.specs.Answering.{Room, TrimAnswered}
use Rattle.fair_copy.proofs.CopyCalls.{copy_passed}
use Rattle.trimmed_copy.proofs.TrimCalls.{enough, trim_left}
use Rattle.trimmed_copy.proofs.trimmed_copy_within.Goals as goal

pub solve-requires : goal.solve-requires
solve-requires c =
    let a = c.args in
    let l = c.in_ok-log.log in
    let (read, output, work) = copy_passed _ _ c.in_ok-log.ensures.answer in
    let few = few_episodes a.most a.log.now l.episodes l.to_words read in (
      omega (arith, c.requires),
      λ o v same ready. (
        graph_of l.words.now,
        ready,
        rw same
            (subst (λ (u : List ℕ). Room (graph_of u) (length a.out.now)) (sym c.in_ok-log.ensures.same)
            (enough a.most a.log.now l.episodes l.to_words _ read output)),
      ),
    )

pub returns : goal.returns
returns c =
    let a = c.args in
    let l = c.in_ok-log.log in
    let (read, output, work) = copy_passed _ _ c.in_ok-log.ensures.answer in
    let (o, v, o', v', same, ready, answered, left) = c.solve.ensures.answered in
    let room : Room (graph_of l.words.now) (length a.out.now) =
    subst (λ (u : List ℕ). Room (graph_of u) (length a.out.now)) (sym c.in_ok-log.ensures.same) (enough a.most a.log.now l.episodes l.to_words _ read output) in
    let shown : TrimAnswered (graph_of l.words.now) a.out.now c.solve.new.out c.solve.result =
    rw (← same, left) (answered (graph_of l.words.now) ready (rw same room)) in
    trim_left a.most a.log.now a.out.now a.work.now l.episodes l.to_words (sym c.in_ok-log.ensures.answer) c.solve.new.out c.solve.result
    (subst (λ (u : List ℕ). TrimAnswered (graph_of u) a.out.now c.solve.new.out c.solve.result) c.in_ok-log.ensures.same shown)
    (work_cleared a.work.now c.solve.new.w c.solve.ensures.cleared)
