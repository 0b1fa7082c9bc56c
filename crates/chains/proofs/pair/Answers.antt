-- `chains::pair` meets its contract. Assumes nothing.
use native.Mathlib.Omega.{arith}
use Rattle.chains.proofs.Pairs.{pair_one}
use Rattle.chains.proofs.pair.Goals as goal

pub returns-then-b-m : goal.returns-then-b-m
returns-then-b-m c =
    pair_one c.requires.1 c.requires.0 (omega arith) (omega arith) c.in-Some.ensures.first c.set_bit.ensures c.put_behind.ensures
