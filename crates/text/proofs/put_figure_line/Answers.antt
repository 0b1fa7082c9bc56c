-- `text::put_figure_line` meets its contract: the name, the figure behind it, and the newline.
-- Assumes nothing.
use Rattle.std.proofs.Common.{append-nil}
use Rattle.text.specs.Text.{figure}
use Rattle.text.proofs.Puts.{put_ended}
use Rattle.text.proofs.put_figure_line.Goals as goal

pub returns : goal.returns
returns c =
    let one = append-nil (figure c.args.n) in
    rw one (put_ended 10 c.put-start.ensures c.put_figure.ensures (rw one at c.requires))
