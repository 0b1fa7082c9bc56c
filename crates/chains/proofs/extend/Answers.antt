use Rattle.std.proofs.Common.{refl, rules}
use Rattle.searching.proofs.Words.{figure_some}
use Rattle.chains.proofs.Extending.{flip_asked, going_more, going_less, not_end, going_start, going_end, in_vain}
use Rattle.chains.proofs.extend.Goals as goal

pub returns-then-is_some : goal.returns-then-is_some
returns-then-is_some c = not_end c.requires.0 (search (rules, figure_some))

pub returns-in_default : goal.returns-in_default
returns-in_default c = in_vain c.requires.0 c.in_default.ensures.searched refl c.copy_row.ensures

pub loop-item-init : goal.loop-item-init
loop-item-init c = going_start c.requires.0 c.in-Some.ensures.searched c.in-Some.ensures.found

pub flip-item-requires : goal.flip-item-requires
flip-item-requires c = flip_asked c.loop-item.invariant.1 c.in-Some-item.is

pub loop-item-preserved : goal.loop-item-preserved
loop-item-preserved c =
    let (tail, going) = c.loop-item.invariant in
    (tail, going_more going c.in-Some-item.is c.flip-item.result c.flip-item.ensures)

pub loop-item-smaller : goal.loop-item-smaller
loop-item-smaller c = going_less c.loop-item.invariant.1 c.in-Some-item.is c.flip-item.result c.flip-item.ensures

pub returns : goal.returns
returns c = going_end c.requires.0 c.in-Some.ensures.searched c.loop-item.invariant.1 c.in_default-item.is c.copy_row-2.ensures
