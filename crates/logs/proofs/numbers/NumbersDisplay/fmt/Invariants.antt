-- `fmt` of the numbers of words meets its contract. The invariant: the numbers of the words before this one are written.
-- Assumes nothing.
use lib.ListN.{take}
use Rattle.std.specs.Fmt.{HasWritten, IsPlainFormatter}
use Rattle.logs.specs.Words.{kind_code}
use Rattle.logs.specs.Shown.{numbers_shown}
use Rattle.logs.proofs.numbers.NumbersDisplay.fmt.Given as goal

abbrev pub invariant-loop-w : goal.invariant-loop-w
invariant-loop-w g l =
    IsPlainFormatter l.initial.f
    → HasWritten g.W.Write.write_str_gives l.initial.f (numbers_shown (kind_code l.fn.self.kind) (take l.w-index l.w-items)) l.f
