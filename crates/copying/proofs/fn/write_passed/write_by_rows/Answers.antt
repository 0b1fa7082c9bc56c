-- The links of an episode in a fair copy meet their contract: what is marked in the row of `a` is what `a` is linked to. Assumes nothing.
use native.Mathlib.Omega.{arith}
use Rattle.logs.specs.Content.{heard_graph, least_pause}
use Rattle.logs.specs.Log.{content_of}
use Rattle.logs.proofs.Laws.{content_fits, graph_episodes}
use Rattle.copying.specs.FairCopy.{linked_to}
use Rattle.copying.proofs.Linked.{links_fewer}
use Rattle.copying.proofs.Rows.{row_length, row_short, row_marks, row_written}
use Rattle.copying.proofs.fn.write_passed.write_by_rows.Goals as goal

pub write_links-requires : goal.write_links-requires
write_links-requires c =
    let l = c.captures.log in
    let a = c.args.a in
    let t = content_of l.words.now in
    let w = c.block_of.new.w in
    let count = graph_episodes _ l.words.now l.episodes l.to_words l.passes in
    let size = row_length t a l.episodes w count c.requires.0 (omega arith) c.block_of.ensures in (
      rw (row_marks t a l.episodes w count c.requires.0 (omega arith) c.block_of.ensures)
          (omega (arith, c.requires.3, links_fewer a (least_pause t a) (linked_to a (heard_graph (content_of l.words.now)).links l.episodes))),
      omega arith,
      row_short t a l.episodes w count c.requires.0 (omega arith) c.block_of.ensures (λ h i. (content_fits l.words.now h i).1),
    )

pub returns : goal.returns
returns c =
    let l = c.captures.log in
    let count = graph_episodes _ l.words.now l.episodes l.to_words l.passes in (
      c.block_of.ensures,
      row_written (content_of l.words.now) c.args.a l.episodes c.block_of.new.w count c.requires.0 (omega arith)
          c.block_of.ensures c.write_links.ensures,
    )
