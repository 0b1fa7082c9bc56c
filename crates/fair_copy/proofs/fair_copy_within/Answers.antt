-- `fair_copy::fair_copy_within` meets its contract: on each way out the questions have been answered as the outcome says, and the buffers
-- are as it says. Assumes nothing.
use mathlib.Core.Path.{◌≡◌, sym, subst}
use mathlib.Core.List.{List}
use Prim.Native.Nat.{ℕ}
use native.Mathlib.Omega.{arith}
use lib.ListN.{length}
use Rattle.logs.specs.Log.{content_of}
use Rattle.logs.proofs.Laws.{few_episodes}
use Rattle.copying.specs.FairCopy.{fair_words}
use Rattle.copying.proofs.FairCopies.{copy_fits}
use Rattle.writing.specs.Layout.{BeginsWith}
use Rattle.report.proofs.Calls.{work_cleared}
use Rattle.fair_copy.proofs.CopyCalls.{copy_passed, copy_left}
use Rattle.fair_copy.proofs.fair_copy_within.Goals as goal

pub copy-requires : goal.copy-requires
copy-requires c =
    let a = c.args in
    let l = c.in_ok-log.log in
    let (read, output, work) = copy_passed _ _ c.in_ok-log.ensures.answer in
    let few = few_episodes a.most a.log.now l.episodes l.to_words read in
    let fits = copy_fits a.most a.log.now l.episodes l.to_words read in (
      omega (arith, c.requires),
      rw c.in_ok-log.ensures.same (omega arith),
    )

pub returns : goal.returns
returns c =
    let a = c.args in
    let l = c.in_ok-log.log in
    let done = subst
    (λ (v : List ℕ). (c.copy.result ≡ length (fair_words (content_of v))) × BeginsWith (fair_words (content_of v)) a.out.now c.copy.new.out)
    c.in_ok-log.ensures.same (c.copy.ensures.0, c.copy.ensures.1) in
    copy_left a.most a.log.now a.out.now a.work.now l.episodes l.to_words (sym c.in_ok-log.ensures.answer) c.copy.new.out done.0 done.1
    (work_cleared a.work.now c.copy.new.work c.copy.ensures.2)
