-- The text that is printed, in bytes: the lines of a report, of a refusal and of a loop.
use Rattle.std.specs.Prelude.{List, [], ◌∷◌, ◌++◌, map, flat_map, ℕ, get_or, take, drop, codes, decimal}
use Rattle.paths.specs.Graph.{Graph}
use Rattle.paths.specs.Links.{link_count}
use Rattle.logs.specs.Words.{number}
use Rattle.writing.specs.Layout.{apart_of, threads_of}
use Rattle.report.specs.declared.Outcome.{Outcome}
use Rattle.report.specs.declared.Outcome.TheVariants.{Report, Loop as Looped, Refused}

-- a figure: one space, then the number in decimal, without leading zeros
abbrev pub figure : ℕ → List ℕ
figure n = codes " " ++ decimal n

-- figures, one behind the other
abbrev pub figures : List ℕ → List ℕ
figures = flat_map figure

-- a line: its name, its figures and a newline; without figures it is the name by itself
abbrev pub line : List ℕ → List ℕ → List ℕ
line name ns = name ++ figures ns ++ codes "\n"

-- a line for each thread
abbrev pub thread_lines : List (List ℕ) → List ℕ
thread_lines = flat_map (line (codes "thread"))

-- The lines of a report on `n` episodes with so many different links, of which `ws` are the words: n, the link count, the width, the apart set, then
-- each thread's episodes.
unfoldable pub report_text : ℕ → ℕ → List ℕ → List ℕ
report_text n links ws =
    line (codes "episodes") (n ∷ [])
    ++ line (codes "links") (links ∷ [])
    ++ line (codes "width") (number (get_or ws 0 0) ∷ [])
    ++ line (codes "apart") (apart_of ws)
    ++ thread_lines (threads_of ws)

-- the line of a refusal, by its number and its place: `refused N at P`
unfoldable pub refusal_text : ℕ → ℕ → List ℕ
refusal_text q p = codes "refused" ++ figure q ++ codes " at" ++ figure p ++ codes "\n"

-- the bytes that the line of every refusal fits: 10 digits of its number and 20 of its place
abbrev pub refusal_bytes : ℕ
refusal_bytes = 43

-- the lines of a loop of `c` episodes, of which `steps` are the words: refusal 13 at its length, then `loop` and its episodes
unfoldable pub loop_text : ℕ → List ℕ → List ℕ
loop_text c steps = refusal_text 13 c ++ line (codes "loop") (map number steps)

-- what is printed of an outcome on a log with the graph `g`, where the output holds `o`
unfoldable pub outcome_text : Graph → List ℕ → Outcome → List ℕ
outcome_text g o (Report c) = report_text g.n (link_count g) (take c o)
outcome_text g o (Looped c) = loop_text c (take c (drop 1 o))
outcome_text g o (Refused q p) = refusal_text q p
