-- `writing::write_report` meets its contract: the apart set, the threads behind it, and the end; there is room for all of them.
-- Assumes nothing.
use native.Mathlib.Omega.{arith}
use Rattle.writing.proofs.Reporting.{threads_room, end_lt, end_few, whole_length, report_written}
use Rattle.writing.proofs.write_report.Goals as goal

pub write_threads-requires : goal.write_threads-requires
write_threads-requires c = threads_room c.write_apart-start.ensures c.requires.1 c.requires.2

-- the end has room, and stands at a small place
pub word-requires : goal.word-requires
word-requires c = omega (arith, end_few c.write_apart-start.ensures c.write_threads.ensures c.requires.1)

pub bounds-out-end : goal.bounds-out-end
bounds-out-end c =
    let lt = end_lt c.write_apart-start.ensures c.write_threads.ensures c.requires.1 c.requires.2 in
    omega (arith, whole_length c.write_apart-start.ensures c.write_threads.ensures)

pub returns : goal.returns
returns c =
    let lt = end_lt c.write_apart-start.ensures c.write_threads.ensures c.requires.1 c.requires.2 in
    rw c.word.ensures (report_written c.write_apart-start.ensures c.write_threads.ensures c.requires.1 (omega arith))
