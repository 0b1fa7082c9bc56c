-- `trimming::trim_row` meets its contract: what is implied is noted, and the other links are written.
-- Assumes nothing.
use mathlib.Core.Path.{refl}
use native.Mathlib.Omega.{arith}
use Rattle.copying.specs.FairCopy.{linked_to}
use Rattle.copying.proofs.Linked.{links_fewer}
use Rattle.trimming.specs.TrimmedCopy.{trimmed, no_pause}
use Rattle.trimming.proofs.Rows.{row_stays}
use Rattle.trimming.proofs.trim_row.Goals as goal

pub write_row-requires : goal.write_row-requires
write_row-requires c =
    let noted = c.note_implied in
    let (g, held, fits) = c.requires.0 in (
      omega (arith, held.few, held.long),
      (
        c.args.a,
        refl,
        rw (row_stays noted.new.implied held c.requires.1 (noted.ensures c.args.a refl))
            (omega (arith, fits, links_fewer c.args.a (no_pause c.args.a) (linked_to c.args.a (trimmed g).links c.args.n))),
      ),
    )

pub returns : goal.returns
returns c =
    λ g held.
    let noted = c.note_implied in
    rw (row_stays noted.new.implied held c.requires.1 (noted.ensures c.args.a refl)) at (c.write_row.ensures c.args.a refl)
