-- Whether a table's word names an item.
use Rattle.std.specs.Prelude.{Option, Some, None, is_some, true, false}
use mathlib.Core.Path.{◌≡◌, sym}
use Prim.Native.Nat.{ℕ, ◌<◌}
use native.Mathlib.Omega.{arith}
use Rattle.searching.specs.State.{figure}

pub figure_some : {n : ℕ} (o : Option ℕ) → is_some o ≡ true → figure o ≡ n → 0 < n
figure_some (Some x) h e = omega arith
figure_some None h e = absurd (cc)

pub figure_none : {n : ℕ} (o : Option ℕ) → is_some o ≡ false → figure o ≡ n → n ≡ 0
figure_none (Some x) h e = absurd (cc)
figure_none None h e = sym e
