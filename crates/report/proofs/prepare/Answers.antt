-- `report::prepare` meets its contract: the matrices and the tables of the search are made zero, and the links, the ways and the voices of the log are
-- put there. Assumes nothing.
use mathlib.Core.Path.{◌∙◌}
use Prim.Native.Nat.{◌<◌, ◌≤◌}
use native.Mathlib.Omega.{arith}
use lib.ListN.{length}
use Rattle.bits.specs.Work.{used_words}
use Rattle.report.proofs.Calls.{made_zero, ready, voices_put, voices_there}
use Rattle.report.proofs.prepare.Goals as goal

pub reachability-requires : goal.reachability-requires
reachability-requires c =
    let size = c.requires.3 in
    let (front, tables) = made_zero c.args.w.now c.clear.new.w c.clear-2.new.w (omega arith) c.clear.ensures c.clear-2.ensures in (
      omega (arith, c.passed-log.ensures.1, c.requires.2),
      omega (arith, front.outside.same_length, tables.outside.same_length),
      λ i h. tables.outside.before i (omega arith) ∙ front.zeros i (omega arith) h,
    )

pub returns : goal.returns
returns c =
    let l = c.passed-log.result in
    let (words, episodes) = c.passed-log.ensures in
    let size = c.requires.3 in
    let few : l.episodes < 256 = omega (arith, episodes, c.requires.2) in
    let (front, tables) = made_zero c.args.w.now c.clear.new.w c.clear-2.new.w (omega arith) c.clear.ensures c.clear-2.ensures in
    let reached = c.reachability.ensures in
    let w = c.reachability.new.w in
    let long : used_words ≤ length w = omega (arith, reached.outside.same_length, tables.outside.same_length, front.outside.same_length) in
    rw (words, episodes) at
    (ready l.words.now l.episodes l.to_words l.passes few (omega (arith, front.outside.same_length)) tables reached
    (voices_put w 256 (omega arith) (omega arith) long c.read_voices.ensures)
    (voices_there w 256 (omega arith) (omega arith) long c.read_voices.ensures))
