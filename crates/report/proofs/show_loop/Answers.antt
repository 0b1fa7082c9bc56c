-- `report::show_loop` meets its contract: where an episode has a way to itself a loop is found and written. Assumes nothing.
use Rattle.report.proofs.Answers.{loop_sought}
use Rattle.report.proofs.show_loop.Goals as goal

pub returns : goal.returns
returns c = λ g ready. let v = c.in_ok-v.ensures in loop_sought ready v.first v.below c.find_loop.ensures c.write_loop.ensures
