-- `reach::reachability` meets its contract: in the front of the words the links are marked, and then the ways.
-- Assumes nothing.
use mathlib.Core.Path.{◌∙◌}
use native.Mathlib.Omega.{arith}
use Rattle.std.specs.Array.{IsFirstChunk}
use Rattle.bits.specs.Work.{items_at}
use Rattle.rising.proofs.Front.{word_front}
use Rattle.reach.proofs.Reached.{no_ways, reached}
use Rattle.reach.proofs.reachability.Goals as goal

pub mark_links-requires : goal.mark_links-requires
mark_links-requires c =
    let front : IsFirstChunk _ _ items_at = rw c.unwrap-front.ensures at c.first_chunk_mut.ensures.cases in
    (omega arith, λ i h. word_front front i h ∙ c.requires.2 i h)

pub reach_ways-requires : goal.reach_ways-requires
reach_ways-requires c =
    let front : IsFirstChunk _ _ items_at = rw c.unwrap-front.ensures at c.first_chunk_mut.ensures.cases in
    (omega arith, no_ways _ _ _ (λ i h. word_front front i h ∙ c.requires.2 i h) c.mark_links.ensures)

pub returns : goal.returns
returns c =
    let front : IsFirstChunk _ _ items_at = rw c.unwrap-front.ensures at c.first_chunk_mut.ensures.cases in
    let l = c.args.log in
    reached l.words.now l.episodes l.to_words l.passes front c.mark_links.ensures c.reach_ways.ensures
