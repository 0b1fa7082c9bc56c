use native.Mathlib.Omega.{arith}
use Prim.Native.Nat.{◌/◌}
use Rattle.bits.proofs.Rows.{first_new, new_word, none_yet, none_then_first, none_then_none, none_at_all, first_below}
use Rattle.bits.proofs.next_new.Goals as goal

pub loop-at-init : goal.loop-at-init
loop-at-init c = none_yet _ c.args.from (omega arith)

pub returns-then-ones-ne0-clause-first : goal.returns-then-ones-ne0-clause-first
returns-then-ones-ne0-clause-first c =
    let a = c.args in
    let word = new_word a.w.now a.w.now a.row a.seen (c.loop-at.at / 32) c.without.result c.without.ensures in
    first_new (none_then_first _ a.from c.loop-at.at c.without.result c.loop-at.invariant (omega arith) (omega arith) word (omega arith))

pub returns-then-ones-ne0-clause-below : goal.returns-then-ones-ne0-clause-below
returns-then-ones-ne0-clause-below c = first_below c.loop-at.at c.without.result (omega arith) (omega arith) (omega arith)

pub loop-at-preserved : goal.loop-at-preserved
loop-at-preserved c =
    let a = c.args in
    let word = new_word a.w.now a.w.now a.row a.seen (c.loop-at.at / 32) c.without.result c.without.ensures in
    none_then_none _ a.from c.loop-at.at c.without.result c.loop-at.invariant (omega arith) (omega arith) word (omega arith)

pub returns-clause-first : goal.returns-clause-first
returns-clause-first c = first_new (none_at_all c.loop-at.invariant (omega arith))
