-- `copying::put_from` meets its contract: the from word goes in front of the to words, if there are some.
-- Assumes nothing.
use native.Mathlib.Omega.{arith}
use Rattle.copying.proofs.Groups.{from_put, from_left}
use Rattle.copying.proofs.put_from.Goals as goal

pub returns-then-links-ne0 : goal.returns-then-links-ne0
returns-then-links-ne0 c = λ pause bs o s. rw c.word.ensures (from_put c.args.a bs s (λ e. omega arith))

pub returns-else-links-ne0 : goal.returns-else-links-ne0
returns-else-links-ne0 c = λ pause bs o s. from_left c.args.a bs s (omega arith) c.requires.1
