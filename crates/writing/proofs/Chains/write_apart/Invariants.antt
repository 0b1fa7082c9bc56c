-- `writing::Chains::write_apart` meets its contract. The invariant: the members below `v` stand behind the first word, and `width` is the sum of their
-- voices.
-- Assumes nothing.
use mathlib.Core.Path.{◌≡◌}
use Rattle.logs.specs.Words.{word}
use Rattle.items.specs.Listed.{voices_in}
use Rattle.writing.specs.Writing.{apart_test}
use Rattle.writing.proofs.Listing.{Listing}
use Rattle.writing.proofs.Widths.{width_below}
use Rattle.writing.proofs.Chains.write_apart.Given as goal

abbrev pub invariant-loop-v : goal.invariant-loop-v
invariant-loop-v l =
    Listing (apart_test l.self.words.now) (word 5) l.initial.out l.out l.self.episodes l.count l.v
    × (l.width ≡ width_below (voices_in l.self.words.now) (apart_test l.self.words.now) l.v)
