-- `text::put_apart` meets its contract. The invariant: all figures but those of the apart words from the index on have been written.
-- Assumes nothing.
use Rattle.std.proofs.Common.{drop}
use Rattle.writing.specs.Layout.{apart_of}
use Rattle.text.specs.Text.{figures}
use Rattle.text.specs.Put.{Putting}
use Rattle.text.proofs.put_apart.Given as goal

abbrev pub invariant-loop-word : goal.invariant-loop-word
invariant-loop-word l = Putting (figures (apart_of l.words)) (figures (apart_of (drop l.word-index l.words))) l.initial.text l.text l.at
