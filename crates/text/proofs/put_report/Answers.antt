-- `text::put_report` meets its contract: the lines, one behind the other.
-- Assumes nothing.
use Rattle.std.proofs.Common.{List, [], ◌∷◌, ◌++◌, ℕ, ◌≤◌, length, codes, get_or}
use Rattle.logs.specs.Words.{number}
use Rattle.writing.specs.Layout.{apart_of, threads_of}
use Rattle.text.specs.Text.{line, thread_lines, report_text}
use Rattle.text.proofs.Puts.{put_both, room_front, room_behind}
use Rattle.text.proofs.put_report.Goals as goal

-- the lines in front, by their room
module _ (n links k : ℕ) (ws : List ℕ) (room : length (report_text n links ws) ≤ k) where
  abbrev one : List ℕ
  one = line (codes "episodes") (n ∷ [])

  abbrev two : List ℕ
  two = one ++ line (codes "links") (links ∷ [])

  abbrev three : List ℕ
  three = two ++ line (codes "width") (number (get_or ws 0 0) ∷ [])

  abbrev four : List ℕ
  four = three ++ line (codes "apart") (apart_of ws)

  room-5 : length (four ++ thread_lines (threads_of ws)) ≤ k
  unfolding report_text
  room-5 = room

  room-4 : length four ≤ k
  room-4 = room_front four (thread_lines (threads_of ws)) room-5

  room-3 : length three ≤ k
  room-3 = room_front three (line (codes "apart") (apart_of ws)) room-4

  room-2 : length two ≤ k
  room-2 = room_front two (line (codes "width") (number (get_or ws 0 0) ∷ [])) room-3

  room-1 : length one ≤ k
  room-1 = room_front one (line (codes "links") (links ∷ [])) room-2

pub put_figure_line-at-requires : goal.put_figure_line-at-requires
put_figure_line-at-requires c = room-1 c.args.episodes c.args.links _ c.args.words.now c.requires

pub put_figure_line-at-requires-2 : goal.put_figure_line-at-requires-2
put_figure_line-at-requires-2 c =
    room_behind c.put_figure_line-at.ensures _ (room-2 c.args.episodes c.args.links _ c.args.words.now c.requires)

pub put_figure_line-at-requires-3 : goal.put_figure_line-at-requires-3
put_figure_line-at-requires-3 c =
    rw c.width.ensures
    (room_behind (put_both c.put_figure_line-at.ensures c.put_figure_line-at-2.ensures) _
    (room-3 c.args.episodes c.args.links _ c.args.words.now c.requires))

pub put_apart_line-at-requires : goal.put_apart_line-at-requires
put_apart_line-at-requires c =
    room_behind (put_both (put_both c.put_figure_line-at.ensures c.put_figure_line-at-2.ensures) (rw c.width.ensures at c.put_figure_line-at-3.ensures)) _
    (room-4 c.args.episodes c.args.links _ c.args.words.now c.requires)

pub put_threads-requires : goal.put_threads-requires
put_threads-requires c =
    let three = put_both (put_both c.put_figure_line-at.ensures c.put_figure_line-at-2.ensures) (rw c.width.ensures at c.put_figure_line-at-3.ensures) in
    room_behind (put_both three c.put_apart_line-at.ensures) _ (room-5 c.args.episodes c.args.links _ c.args.words.now c.requires)

pub returns : goal.returns
unfolding report_text
returns c =
    let three = put_both (put_both c.put_figure_line-at.ensures c.put_figure_line-at-2.ensures) (rw c.width.ensures at c.put_figure_line-at-3.ensures) in
    put_both (put_both three c.put_apart_line-at.ensures) c.put_threads.ensures
