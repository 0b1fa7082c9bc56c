-- `searching::forget` meets its contract. Assumes nothing.
use Rattle.std.proofs.Common.{rules, arith}
use Rattle.bits.specs.Work.{seen_at, none_at}
use Rattle.bits.proofs.Frames.{part_cleared}
use Rattle.searching.proofs.Marks.{forgotten}
use Rattle.searching.proofs.forget.Goals as goal

pub returns : goal.returns
returns c = forgotten (part_cleared c.args.w.now c.fill.new.self seen_at 16 none_at (omega arith) (omega arith) (search rules))
