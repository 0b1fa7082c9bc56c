-- `text::put_figure` meets its contract: there is room for the space, and a digit at least behind it.
-- Assumes nothing.
use native.Mathlib.Omega.{arith}
use Rattle.std.proofs.lemmas.Fmt.{decimal_nonempty}
use Rattle.text.proofs.put_figure.Goals as goal

pub put-start-requires : goal.put-start-requires
put-start-requires c = omega (arith, c.requires, decimal_nonempty c.args.n (omega (arith, c.ranges.n)))
