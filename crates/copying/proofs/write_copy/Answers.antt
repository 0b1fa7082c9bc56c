-- `copying::write_copy` meets its contract: a log that passes has at most 256 episodes, and its words are those that came in. Assumes nothing.
use mathlib.Core.Path.{sym, subst}
use mathlib.Core.List.{List}
use Prim.Native.Nat.{ℕ, ◌≤◌}
use native.Mathlib.Omega.{arith}
use lib.ListN.{length}
use Rattle.logs.specs.Log.{content_of}
use Rattle.logs.proofs.PassedLogs.{passed_few}
use Rattle.copying.specs.FairCopy.{fair_words}
use Rattle.copying.proofs.write_copy.Goals as goal

pub write_passed-requires : goal.write_passed-requires
write_passed-requires c =
    let (words, episodes) = c.passed.ensures in (
      omega (arith, episodes, passed_few c.args.log.now c.requires.0 c.args.n c.requires.1),
      subst (λ (l : List ℕ). length (fair_words (content_of l)) ≤ length c.args.out.now) (sym words) c.requires.3,
    )
