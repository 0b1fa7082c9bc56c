use native.Mathlib.Omega.{arith}
use Rattle.items.proofs.Listing.{counting_none, counting_more, counting_end}
use Rattle.items.proofs.all_one.Goals as goal

pub loop-v-init : goal.loop-v-init
loop-v-init c = counting_none c.args.w.now

pub loop-v-preserved : goal.loop-v-preserved
loop-v-preserved c = rw c.from-others.ensures (counting_more c.loop-v.invariant)

pub returns : goal.returns
returns c = counting_end (omega arith) (omega arith) c.loop-v.invariant
