-- `reach::close_row` meets its contract: the ways of `k` are joined into the row of `a` exactly where `a` has a way to `k`.
-- Assumes nothing.
use mathlib.Core.Path.{sym, ◌∙◌}
use mathlib.Core.Bool.{true≢false}
use Rattle.std.proofs.lemmas.Bool.{eqb-true, eq-eqb}
use Rattle.reach.proofs.Rounds.{row_joined_closed, row_left_closed}
use Rattle.reach.proofs.close_row.Goals as goal

pub returns-then-bit_at : goal.returns-then-bit_at
returns-then-bit_at c =
    row_joined_closed c.args.w.now c.join_from.new.w c.args.ways.now c.args.a c.args.k c.requires.0 c.requires.2
    (eqb-true _ 1 (sym c.if-bit_at.ensures)) c.join_from.ensures

pub returns-else-bit_at : goal.returns-else-bit_at
returns-else-bit_at c =
    row_left_closed c.args.w.now c.args.a c.args.k (λ e. absurd (true≢false (sym (eq-eqb _ 1 e) ∙ sym c.if-bit_at.ensures)))
