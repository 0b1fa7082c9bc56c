-- `main` is safe: its text buffer is long enough for every text.
-- Assumes nothing.
use Rattle.std.proofs.Common.{sym, ap, is_ok, lit≤}
use Rattle.std.proofs.lemmas.List.{length-take-le}
use Rattle.text.proofs.Laws.{text_exactly, text_within}
use Rattle.print_report.proofs.main.Goals as goal

pub unwrap-printed-requires : goal.unwrap-printed-requires
unwrap-printed-requires c = ap is_ok ((text_exactly _ _ _ _ _ _ _ _ c.text.result c.text.ensures).1 (lit≤ tt)).1

pub slice_bounds-text-end-5 : goal.slice_bounds-text-end-5
slice_bounds-text-end-5 c = text_within _ _ _ _ _ _ _ _ c.unwrap-printed.result (rw c.unwrap-printed.ensures at c.text.ensures)

pub slice_bounds-write_all-end : goal.slice_bounds-write_all-end
slice_bounds-write_all-end c =
    sym (length-take-le _ _ (text_within _ _ _ _ _ _ _ _ c.unwrap-printed.result (rw c.unwrap-printed.ensures at c.text.ensures)))
