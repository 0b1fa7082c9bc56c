-- `writing::Chains::apart_voices` meets its contract: an episode with voices has a first item.
-- Assumes nothing.
use native.Mathlib.Omega.{arith}
use Rattle.writing.proofs.Solved.{start_lt}
use Rattle.writing.proofs.Chains.apart_voices.Goals as goal

pub is_member-requires : goal.is_member-requires
is_member-requires c =
    omega (arith, start_lt c.args.self.now.solved c.args.v c.requires (omega (arith, c.if-voices-ne0.true)))
