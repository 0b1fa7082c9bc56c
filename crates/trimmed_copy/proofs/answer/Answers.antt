-- `trimmed_copy::answer` meets its contract: where a loop is shown it is the answer, and else the links that stay are written.
-- Assumes nothing.
use mathlib.Core.Path.{sym, ap, subst}
use mathlib.Core.List.{List}
use Prim.Native.Nat.{ℕ}
use native.Mathlib.Omega.{arith}
use lib.ListN.{length}
use Rattle.writing.specs.Layout.{BeginsWith}
use Rattle.trimming.specs.TrimmedCopy.{trimmed_words}
use Rattle.report.specs.Solving.{Ready}
use Rattle.trimmed_copy.proofs.TrimCalls.{held}
use Rattle.trimmed_copy.proofs.answer.Goals as goal

pub returns : goal.returns
returns c =
    λ g ready room.
    let none = rw c.in_default.is at (c.show_loop.ensures g ready) in
    let after = subst (λ (x : List ℕ). Ready g c.args.n x) (sym none.2) ready in
    let (count, begins) = c.write_trimmed.ensures g (held after room) (omega (arith, ap length none.1, room.copy)) in
    (none.0, sym count, subst (λ (o : List ℕ). BeginsWith (trimmed_words g) o c.write_trimmed.new.out) none.1 begins)
