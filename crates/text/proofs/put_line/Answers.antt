-- `text::put_line` meets its contract: the name, the figures behind it, and the newline.
-- Assumes nothing.
use Rattle.text.proofs.Puts.{put_ended}
use Rattle.text.proofs.put_line.Goals as goal

pub returns : goal.returns
returns c = put_ended 10 c.put-start.ensures c.put_numbers.ensures c.requires
