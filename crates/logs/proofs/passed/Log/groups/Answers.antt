-- `logs::Log::groups` meets its contract: a group starts behind the head and the voices words, or the last word stands there.
-- Assumes nothing.
use mathlib.Core.Path.{sym, subst}
use Prim.Native.Nat.{ℕ, ◌+◌}
use native.Mathlib.Omega.{arith}
use Rattle.logs.specs.Groups.{Starts}
use Rattle.logs.proofs.Laws.{voices_end}
use Rattle.logs.proofs.Walk.{starts_first}
use Rattle.logs.proofs.passed.Log.groups.Goals as goal

pub invariant_of-result : goal.invariant_of-result
invariant_of-result c =
    let l = c.args.self in
    record { here = subst (λ (k : ℕ). Starts l.words.now (k + 1)) (sym l.voices) (starts_first l.words.now l.episodes l.to_words l.passes) }

pub overflow_add-result : goal.overflow_add-result
overflow_add-result c = let l = c.args.self in omega (arith, (voices_end _ l.words.now l.episodes l.to_words l.passes).within, l.voices)
