-- `chains::behind_itself` meets its contract. The invariant: the items before `a`, but for `v`, stand behind themselves. Assumes nothing.
use mathlib.Core.Path.{◌≡◌}
use mathlib.Core.Logic.{◌≢◌}
use Prim.Native.Nat.{ℕ, ◌+◌, ◌<◌}
use Rattle.bits.specs.Work.{next_at, via_at, Outside}
use Rattle.searching.specs.State.{tables}
use Rattle.chains.proofs.behind_itself.Given as goal

abbrev pub invariant-loop-a : goal.invariant-loop-a
invariant-loop-a l =
    record {
      outside : Outside next_at via_at l.initial.w l.w;
      next_end : (tables l.w).next l.v ≡ 0;
      prev_end : (tables l.w).prev l.v ≡ 0;
      next_self : (x : ℕ) → x < l.a → x ≢ l.v → (tables l.w).next x ≡ x + 1;
      prev_self : (x : ℕ) → x < l.a → x ≢ l.v → (tables l.w).prev x ≡ x + 1;
    }
