use mathlib.Core.Path.{◌≡◌, ◌∙◌}
use Prim.Native.Nat.{◌+◌, ◌-◌}
use native.Mathlib.Omega.{arith}
use lib.ListN.{get_or, take, drop}
use lib.Seq.{get_or-take, get_or-drop}
use Rattle.trimming.proofs.Joining.{noting_start, noting_on, noting_end}
use Rattle.trimming.proofs.note_implied.Goals as goal

pub loop-i-init : goal.loop-i-init
loop-i-init c = noting_start c.args.w.now c.args.implied.now c.args.row c.requires.2

pub loop-i-preserved : goal.loop-i-preserved
loop-i-preserved c =
    let w = c.args.w.now in
    let row = c.args.row in
    let i = c.loop-i.i in
    let word : get_or (take (row + 8 - row) (drop row w)) i 0 ≡ get_or w (row + i) 0 =
    get_or-take (row + 8 - row) (drop row w) i 0 (omega arith) ∙ get_or-drop row w i 0 in
    noting_on c.requires.1 (omega arith) c.loop-i.invariant (rw word at c.without-fresh.ensures) c.join_rows.ensures

pub returns : goal.returns
returns c = noting_end (omega arith) c.loop-i.invariant
