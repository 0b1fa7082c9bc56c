-- `logs::Log::passed` meets its contract: what passes at some ceilings passes at its own figures, which its words tell.
-- Assumes nothing.
use mathlib.Core.Path.{◌∙◌, sym, subst}
use Prim.Native.Nat.{ℕ}
use native.Mathlib.Omega.{arith}
use Rattle.logs.specs.Log.{PassesWith}
use Rattle.logs.proofs.PassedLogs.{passed_long, passed_with, passed_voices}
use Rattle.logs.proofs.passed.Log.passed.Goals as goal

pub overflow_sub-words : goal.overflow_sub-words
overflow_sub-words c = omega (arith, passed_long c.args.words.now c.requires.0)

pub bounds-words-words : goal.bounds-words-words
bounds-words-words c = omega (arith, passed_long c.args.words.now c.requires.0)

pub invariant_of-result : goal.invariant_of-result
invariant_of-result c =
    record {
      passes =
          subst (λ (t : ℕ). PassesWith c.args.words.now c.args.n t) (sym c.number_of.ensures)
          (passed_with c.args.words.now c.requires.0 c.args.n c.requires.1);
      voices = c.voices_behind.ensures ∙ passed_voices c.args.words.now c.requires.0;
    }
