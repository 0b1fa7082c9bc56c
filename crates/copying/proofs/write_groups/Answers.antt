use mathlib.Core.Path.{refl}
use native.Mathlib.Omega.{arith}
use Rattle.copying.proofs.GroupLinks.{length_group_links}
use Rattle.copying.proofs.Copies.{copying_none, copying_at, copying_length, copying_on, group_length_few}
use Rattle.copying.proofs.Calls.{next_may, next_written, next_called, next_few, next_room}
use Rattle.copying.proofs.write_groups.Goals as goal

pub loop-a-init : goal.loop-a-init
loop-a-init g c = λ pause h writes same fits. (refl, copying_none pause h c.args.start c.args.out.now (omega arith))

pub write_row-more-requires : goal.write_row-more-requires
write_row-more-requires g c =
    let (pause, h, writes, same, few, small, fits) = c.requires in
    let (called, here) = c.loop-a.invariant pause h writes same fits in
    next_may writes fits called here (omega arith) _ refl

pub put_from-requires : goal.put_from-requires
put_from-requires g c =
    let (pause, h, writes, same, few, small, fits) = c.requires in
    let (called, here) = c.loop-a.invariant pause h writes same fits in
    (omega arith, next_room writes fits called here (omega arith) refl c.write_row-more.ensures)

pub group_words-words-requires : goal.group_words-words-requires
group_words-words-requires g c =
    let (pause, h, writes, same, few, small, fits) = c.requires in
    let (called, here) = c.loop-a.invariant pause h writes same fits in
    next_few writes fits called here (omega arith) refl c.write_row-more.ensures (omega arith)

pub overflow_add-words : goal.overflow_add-words
overflow_add-words g c =
    let (pause, h, writes, same, few, small, fits) = c.requires in
    let (called, here) = c.loop-a.invariant pause h writes same fits in
    let low = next_few writes fits called here (omega arith) refl c.write_row-more.ensures (omega arith) in
    omega (arith, copying_at here fits, copying_length here fits, group_length_few c.write_row-more.result, c.group_words-words.ensures)

pub overflow_add-links : goal.overflow_add-links
overflow_add-links g c =
    let (pause, h, writes, same, few, small, fits) = c.requires in
    let (called, here) = c.loop-a.invariant pause h writes same fits in
    let low = next_few writes fits called here (omega arith) refl c.write_row-more.ensures (omega arith) in
    omega (arith, here.count, length_group_links h c.loop-a.a)

pub loop-a-preserved : goal.loop-a-preserved
loop-a-preserved g c =
    λ pause h writes same fits.
    let (called, here) = c.loop-a.invariant pause h writes same fits in
    let written = c.put_from.ensures (pause c.loop-a.a) _ _ (next_written writes fits called here (omega arith) refl c.write_row-more.ensures) in (
      next_called writes fits called here (omega arith) refl c.write_row-more.ensures,
      copying_on here fits _ refl (omega arith) written refl c.group_words-words.ensures,
    )
