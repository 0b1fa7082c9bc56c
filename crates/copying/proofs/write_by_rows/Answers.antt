-- `copying::write_by_rows` meets its contract: the head goes before the voices words and the groups, the end behind them.
-- Assumes nothing.
use native.Mathlib.Omega.{arith}
use Rattle.copying.proofs.GroupLinks.{length_group_links}
use Rattle.copying.proofs.Copies.{groups_room, end_room, copy_whole}
use Rattle.copying.proofs.write_by_rows.Goals as goal

pub write_ends-requires : goal.write_ends-requires
write_ends-requires g c =
    let (pause, h, o, writes, same, voices, low, few, small, fits) = c.requires in
    let groups = c.write_groups-groups in
    let written = groups.ensures pause h writes same (groups_room pause h voices fits) in (
      low,
      few,
      omega (arith, written.link_count, length_group_links h h.n),
      end_room pause h o c.args.out.now groups.new.out c.args.start groups.result.words groups.result.links fits voices written,
    )

pub write_groups-groups-requires : goal.write_groups-groups-requires
write_groups-groups-requires g c =
    let (pause, h, o, writes, same, voices, low, few, small, fits) = c.requires in
    (pause, h, writes, same, omega arith, small, groups_room pause h voices fits)

pub overflow_add-result : goal.overflow_add-result
overflow_add-result g c =
    let (pause, h, o, writes, same, voices, low, few, small, fits) = c.requires in
    let room = groups_room pause h voices fits in
    omega (arith, (c.write_groups-groups.ensures pause h writes same room).count)

pub returns : goal.returns
returns g c =
    λ pause h o writes same voices fits.
    let groups = c.write_groups-groups in
    let written = groups.ensures pause h writes same (groups_room pause h voices fits) in
    rw c.write_ends.ensures
    (copy_whole pause h o c.args.out.now groups.new.out c.args.start groups.result.words groups.result.links fits voices written _ _ same)
