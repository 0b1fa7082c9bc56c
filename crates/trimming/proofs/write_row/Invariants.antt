-- `trimming::write_row` meets its contract. The invariant: the links in the first `i` words that are not implied stand as to words behind the
-- first word.
-- Assumes nothing.
use mathlib.Core.Path.{◌≡◌}
use Prim.Native.Nat.{ℕ, ◌+◌, ◌*◌}
use Rattle.bits.specs.Work.{links_at}
use Rattle.writing.proofs.Listing.{Listing}
use Rattle.trimming.specs.Trimming.{kept_at, to_unpaused}
use Rattle.trimming.proofs.write_row.Given as goal

abbrev pub invariant-loop-i : goal.invariant-loop-i
invariant-loop-i l =
    (a : ℕ) → l.row ≡ links_at + 8 * a → Listing (kept_at l.w a l.implied) to_unpaused l.initial.out l.out 256 l.links (32 * l.i)
