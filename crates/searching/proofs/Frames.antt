-- What of the tables and the matrices stays as it is where other words are written.
use mathlib.Core.Path.{◌≡◌, sym, ◌∙◌}
use mathlib.Core.List.{List}
use Prim.Native.Nat.{ℕ, ◌+◌, ◌*◌, ◌≤◌, ◌<◌}
use native.Mathlib.Omega.{arith}
use Rattle.bits.specs.Work.{next_at, prev_at, via_at, dead_at, Outside, matrix_words}
use Rattle.bits.proofs.Frames.{bit_before, bit_behind}
use Rattle.searching.specs.State.{tables, deads, Pairs}

module _ {lo hi : ℕ} {w w' : List ℕ} (o : Outside lo hi w w') where
  -- a matrix before what is written, forth and back
  pub pairs_kept : (base a b : ℕ) → base + matrix_words ≤ lo → a < 256 → b < 256 → Pairs base w a b → Pairs base w' a b
  pairs_kept base a b h k l e = bit_before o (base + 8 * a) b (omega arith) l ∙ e

  pub pairs_were : (base a b : ℕ) → base + matrix_words ≤ lo → a < 256 → b < 256 → Pairs base w' a b → Pairs base w a b
  pairs_were base a b h k l e = sym (bit_before o (base + 8 * a) b (omega arith) l) ∙ e

  -- the tables before what is written
  pub next_before : via_at ≤ lo → (a : ℕ) → a < 256 → (tables w').next a ≡ (tables w).next a
  next_before h a k = o.before (next_at + a) (omega arith)

  pub prev_before : via_at ≤ lo → (b : ℕ) → b < 256 → (tables w').prev b ≡ (tables w).prev b
  prev_before h b k = o.before (prev_at + b) (omega arith)

  -- what is dead
  pub dead_behind : hi ≤ dead_at → (b : ℕ) → deads w' b ≡ deads w b
  dead_behind h b = bit_behind o dead_at b h

  -- the tables behind what is written
  pub via_behind : hi ≤ via_at → (b : ℕ) → (tables w').via b ≡ (tables w).via b
  via_behind h b = o.behind (via_at + b) (omega arith)
