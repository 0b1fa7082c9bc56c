-- `rising::rises` meets its contract: where all rows rise, the bits do, and where one does not, they do not.
-- Assumes nothing.
use mathlib.Core.Path.{refl}
use mathlib.Core.Bool.{true, false}
use native.Mathlib.Omega.{arith}
use Rattle.std.proofs.Common.{rules}
use Rattle.std.proofs.lemmas.Iterator.{cases_from_all, YieldsList-from_range}
use Rattle.rising.specs.Rising.{RowTest}
use Rattle.rising.proofs.Rising.{rise_test}
use Rattle.rising.proofs.rises.Goals as goal

pub returns : goal.returns
returns c =
    let w = c.args.w.now in
    rise_test c.all.result
    (cases_from_all _ _ c.all.result (λ a. RowTest w a true) (λ a. RowTest w a false) c.all.ensures.ran
    (YieldsList-from_range 0 c.args.n c.args.n refl (omega arith))
    (λ a q k. (search rules, search rules)) (λ a q k. search rules))
