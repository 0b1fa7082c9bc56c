-- `parsing::threads_end` meets its contract. The invariant: `place` is behind the threads so far.
-- Assumes nothing.
use Prim.Native.Nat.{◌<◌}
use Rattle.parsing.specs.Parsing.{ThreadsEnd}
use Rattle.parsing.proofs.threads_end.Given as goal

abbrev pub invariant-loop : goal.invariant-loop
invariant-loop l = (0 < l.place) × ThreadsEnd l.report l.at l.counter l.place
