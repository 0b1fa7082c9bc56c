use mathlib.Core.Logic.{◌≢◌}
use lib.ListN.{get_or, drop}
use Prim.Native.Nat.{◌+◌}
use Rattle.std.proofs.Common.{rules}
use Rattle.logs.specs.Words.{kind, kind_code}
use Rattle.logs.specs.declared.Kind.{Kind}
use Rattle.logs.proofs.Asked.{group_kindless}
use Rattle.logs.proofs.Questions.group_word.Goals as goal

pub returns-in_err-map_err : goal.returns-in_err-map_err
returns-in_err-map_err c =
    let a = c.args in
    let none : (k : Kind) → kind_code k ≢ kind (get_or a.self.log.now a.at 0) = search rules in
    rw (group_kindless a.self.most a.self.n a.at _ (drop (a.at + 1) a.self.log.now) a.from a.count none) (search rules)
