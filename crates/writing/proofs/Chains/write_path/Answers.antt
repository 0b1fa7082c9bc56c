use mathlib.Core.Logic.{⊎_elim}
use native.Mathlib.Omega.{arith}
use Rattle.writing.proofs.Stepping.{stepping_length, stepping_room, stepping_less, stepping_more, stepping_ends}
use Rattle.writing.proofs.Chains.write_path.Goals as goal

pub bounds-out-count : goal.bounds-out-count
bounds-out-count c =
    let s = c.loop-at.invariant.0 in
    omega (arith, stepping_room s c.args.self.now.solved c.hop-at.ensures c.requires.3, stepping_length s)

pub returns-then-at-b : goal.returns-then-at-b
returns-then-at-b c =
    let s = c.loop-at.invariant.0 in
    let solved = c.args.self.now.solved in
    let room = stepping_room s solved c.hop-at.ensures c.requires.3 in
    rw c.word.ensures (stepping_ends s solved c.hop-at.ensures c.if-at-b.true room)

pub loop-at-smaller : goal.loop-at-smaller
loop-at-smaller c = omega (arith, stepping_less c.loop-at.invariant.0 c.args.self.now.solved c.hop-at.ensures)

pub loop-at-preserved : goal.loop-at-preserved
loop-at-preserved c =
    let s = c.loop-at.invariant.0 in
    let solved = c.args.self.now.solved in
    let room = stepping_room s solved c.hop-at.ensures c.requires.3 in (
      rw c.word.ensures (stepping_more s solved c.hop-at.ensures room),
      ⊎_elim (λ e. absurd (c.if-at-b.false e)) (λ e. e) c.hop-at.ensures.nearer,
    )
