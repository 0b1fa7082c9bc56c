-- `trimming::write_trimmed` meets its contract: the voices are written, and its calls write the links that stay.
-- Assumes nothing.
use native.Mathlib.Omega.{arith}
use Rattle.std.proofs.Common.{rules}
use Rattle.copying.proofs.Copies.{room_any_version}
use Rattle.trimming.specs.TrimmedCopy.{trimmed, no_pause}
use Rattle.trimming.proofs.Kept.{trimmed_few}
use Rattle.trimming.proofs.Calls.{count_kept, trimmed_links, table_size, table_short, kept_words, kept_written, kept_fit}
use Rattle.trimming.proofs.write_trimmed.Goals as goal

pub write_voices-start-requires : goal.write_voices-start-requires
write_voices-start-requires c =
    let (g, held, fits) = c.requires in (
      omega (arith, table_size held, held.few),
      table_short held,
      rw (kept_words held) (kept_fit held c.args.out.now fits),
    )

pub write_by_rows-requires : goal.write_by_rows-requires
write_by_rows-requires c =
    let (g, held, fits) = c.requires in (
      no_pause,
      trimmed g,
      c.args.out.now,
      trimmed_links _ _ (λ a f o asked. search rules) (λ a r f f' o o' called. search rules) _ g held,
      count_kept held,
      kept_written held c.write_voices-start.ensures,
      omega arith,
      omega (arith, held.few),
      omega (arith, trimmed_few g, held.small),
      room_any_version 0 no_pause (trimmed g) c.args.out.now fits,
    )

pub returns : goal.returns
returns c =
    λ g held fits.
    c.write_by_rows.ensures no_pause (trimmed g) c.args.out.now
    (trimmed_links _ _ (λ a f o asked. search rules) (λ a r f f' o o' called. search rules) _ g held)
    (count_kept held) (kept_written held c.write_voices-start.ensures) (room_any_version 0 no_pause (trimmed g) c.args.out.now fits)
