-- `text::put_numbers` meets its contract. The invariant: all figures but those of the words from the index on have been written.
-- Assumes nothing.
use Rattle.std.proofs.Common.{map, drop}
use Rattle.logs.specs.Words.{number}
use Rattle.text.specs.Text.{figures}
use Rattle.text.specs.Put.{Putting}
use Rattle.text.proofs.put_numbers.Given as goal

abbrev pub invariant-loop-word : goal.invariant-loop-word
invariant-loop-word l = Putting (figures (map number l.words)) (figures (map number (drop l.word-index l.words))) l.initial.text l.text l.at
