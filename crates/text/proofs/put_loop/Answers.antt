-- `text::put_loop` meets its contract: the refusal, and the line of the episodes behind it.
-- Assumes nothing.
use Rattle.std.proofs.Common.{ap, ◌∙◌, map, codes}
use Rattle.logs.specs.Words.{number}
use Rattle.logs.specs.Answer.{reason_number}
use Rattle.logs.specs.declared.Refusal.{Refusal}
use Rattle.text.specs.Text.{line, loop_text}
use Rattle.text.proofs.Puts.{put_both, room_behind}
use Rattle.text.proofs.put_loop.Goals as goal

pub put_refusal-start-requires : goal.put_refusal-start-requires
put_refusal-start-requires c = c.requires.0

pub put_line-requires : goal.put_line-requires
unfolding loop_text
put_line-requires c =
    let thirteen = c.number.ensures ∙ ap (λ (r : Refusal). reason_number r.reason) c.at.ensures in
    room_behind (rw thirteen at c.put_refusal-start.ensures) (line (codes "loop") (map number c.args.steps.now)) c.requires.1

pub returns : goal.returns
unfolding loop_text
returns c =
    let thirteen = c.number.ensures ∙ ap (λ (r : Refusal). reason_number r.reason) c.at.ensures in
    put_both (rw thirteen at c.put_refusal-start.ensures) c.put_line.ensures
