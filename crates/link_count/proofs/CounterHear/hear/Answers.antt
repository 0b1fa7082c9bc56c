use Prim.Native.Nat.{◌≤◌}
use native.Mathlib.Omega.{arith}
use Rattle.std.proofs.lemmas.Bool.Decides.{nat_tests}
use Rattle.link_count.proofs.Counting.{has_room, one_counted}
use Rattle.link_count.proofs.CounterHear.hear.Goals as goal

pub overflow_add-self : goal.overflow_add-self
overflow_add-self c =
    let one : c.from.result ≤ 1 = grind (arith, nat_tests) in
    omega (arith, has_room _ _ _ _ c.requires c.from.result one)

pub returns : goal.returns
returns c = λ next. rw (c.from.ensures, c.mark.ensures.1) (one_counted _ _ _ _ next c.args.short _ c.mark.ensures.0)
