-- `items::pair` meets its contract: where each episode has one voice, its items are the episodes.
-- Assumes nothing.
use mathlib.Core.Path.{refl}
use Rattle.items.proofs.Pairs.{copied_pairs}
use Rattle.items.proofs.pair.Goals as goal

pub returns-then-all_one : goal.returns-then-all_one
returns-then-all_one c = copied_pairs c.requires.0 (c.if-all_one.ensures.0 refl) c.copy_ways.ensures
