use mathlib.Core.Path.{sym, ◌∙◌}
use native.Mathlib.Omega.{arith}
use Rattle.writing.proofs.Bundling.{bundling_none, bundling_same, bundling_fits, bundling_lent}
use Rattle.writing.proofs.Chains.write_threads.Goals as goal
use Rattle.writing.proofs.Chains.write_threads.Goals.{then-is_member, else-is_member}

pub loop-v-init : goal.loop-v-init
loop-v-init c = bundling_none _ _ _ _

pub write_thread-count-requires : goal.write_thread-count-requires
write_thread-count-requires c = (
  omega (arith, c.loop-v-test.true),
  bundling_fits c.loop-v.invariant c.loop-v-test.true (sym c.is_member.ensures ∙ c.if-is_member.true) c.requires,
)

pub loop-v-preserved : goal.loop-v-preserved
loop-v-preserved c =
    let inv = c.loop-v.invariant in
    let lt = c.loop-v-test.true in
    let e = sym c.is_member.ensures in
    elim c.if-is_member.branch [
      | then-is_member u ↦ bundling_lent inv lt (e ∙ u.if-is_member.true) u.write_thread-count.ensures u.out-is u.at-is
      | else-is_member u ↦ rw (u.at-is, u.out-is) (bundling_same inv lt (e ∙ u.if-is_member.false))
    ]
