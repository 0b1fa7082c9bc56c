-- `items::mark_items` meets its contract. The invariant: the bits from the start on and before `x` are set.
-- Assumes nothing.
use Prim.Native.Nat.{◌*◌}
use Rattle.items.specs.Pairing.{BitsSet}
use Rattle.items.proofs.mark_items.Given as goal

abbrev pub invariant-loop-x : goal.invariant-loop-x
invariant-loop-x l = BitsSet l.initial.masks l.masks (8 * l.b) l.start l.x
