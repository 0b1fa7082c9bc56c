use mathlib.Core.Path.{◌∙◌, sym, ap}
use Prim.Native.Nat.{ℕ, ◌+◌, ◌-◌}
use native.Mathlib.Omega.{arith}
use lib.ListN.{drop, length-drop}
use lib.Seq.{get_or-take}
use Rattle.std.proofs.lemmas.List.{length-take}
use Rattle.parsing.proofs.ApartWords.{is_apart, apart_end, apart_least, apart_most}
use Rattle.parsing.proofs.apart_count.Goals as goal

pub returns-then-not-is_of-clause-count : goal.returns-then-not-is_of-clause-count
returns-then-not-is_of-clause-count c =
    let ws = c.args.report.now in
    let i = c.loop-count.count in
    let size = length-drop 1 ws in
    let few = length-take {A = ℕ} in
    let here = get_or-take (c.min-most.result + 1 - 1) (drop 1 ws) i 0 (omega (arith, few)) in
    let end = apart_end ws i c.loop-count.invariant (omega (arith, size, few)) (ap is_apart (sym here) ∙ sym c.is_of.ensures ∙ c.if-not-is_of.true) in
    omega (arith, end, size, few)

pub returns-clause-count : goal.returns-clause-count
returns-clause-count c =
    let ws = c.args.report.now in
    let i = c.loop-count.count in
    let size = length-drop 1 ws in
    let few = length-take {A = ℕ} in
    let least = apart_least ws i c.loop-count.invariant (omega (arith, size, few)) in
    omega (arith, least, apart_most ws, size, few)
