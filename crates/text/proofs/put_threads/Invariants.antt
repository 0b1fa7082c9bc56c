-- `text::put_threads` meets its contract. The invariant: all lines but those of the threads from word `i` on have been written.
-- Assumes nothing.
use Rattle.std.proofs.Common.{drop}
use Rattle.writing.specs.Layout.{threads_of}
use Rattle.text.specs.Text.{thread_lines}
use Rattle.text.specs.Put.{Putting}
use Rattle.text.proofs.put_threads.Given as goal

abbrev pub invariant-loop-i : goal.invariant-loop-i
invariant-loop-i l = Putting (thread_lines (threads_of l.words)) (thread_lines (threads_of (drop l.i l.words))) l.initial.text l.text l.at
