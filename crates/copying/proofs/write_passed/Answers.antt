-- `copying::write_passed` meets its contract: the voices that were read are written, and its calls write the links that were heard.
-- Assumes nothing.
use native.Mathlib.Omega.{arith}
use Rattle.std.proofs.Common.{rules}
use Rattle.logs.specs.Content.{heard_graph, least_pause}
use Rattle.logs.specs.Log.{content_of}
use Rattle.logs.proofs.Laws.{graph_episodes}
use Rattle.logs.proofs.WellFormed.{passes_passed}
use Rattle.copying.proofs.Copies.{version_small, episodes_few, links_small, room_any_version}
use Rattle.copying.proofs.Tables.{voices_fit, size, voices_short, words_same, log_voices}
use Rattle.copying.proofs.Calls.{fair_links}
use Rattle.copying.proofs.write_passed.Goals as goal

pub write_voices-start-requires : goal.write_voices-start-requires
write_voices-start-requires c =
    let l = c.args.log in
    let w = c.args.w.now in
    let w' = c.read_voices.new.table in
    let read = c.read_voices.ensures in (
      omega (arith, size l w w' (omega arith) read),
      voices_short l w w' (omega arith) read,
      rw (words_same l w w' (omega arith) read) (omega (arith, voices_fit (content_of l.words.now) c.args.out.now c.requires.1)),
    )

pub write_by_rows-requires : goal.write_by_rows-requires
write_by_rows-requires c =
    let l = c.args.log in
    let t = content_of l.words.now in
    let count = graph_episodes _ l.words.now l.episodes l.to_words l.passes in
    let room = room_any_version t.version (least_pause t) (heard_graph t) c.args.out.now c.requires.1 in (
      least_pause t,
      heard_graph t,
      c.args.out.now,
      fair_links _ _ (λ a f o asked. search rules) (λ a r f f' o o' called. search rules) _ c.requires.0,
      count,
      log_voices l c.args.w.now c.read_voices.new.table (omega arith) c.read_voices.ensures c.write_voices-start.ensures,
      rw c.version.ensures (version_small l.words.now),
      omega (arith, count, episodes_few l.words.now),
      links_small l.words.now (passes_passed l.words.now l.episodes l.to_words c.requires.0 l.passes),
      room,
    )

pub returns : goal.returns
returns c =
    let l = c.args.log in
    let t = content_of l.words.now in
    let count = graph_episodes _ l.words.now l.episodes l.to_words l.passes in
    let room = room_any_version t.version (least_pause t) (heard_graph t) c.args.out.now c.requires.1 in
    rw c.version.ensures at
    (c.write_by_rows.ensures (least_pause t) (heard_graph t) c.args.out.now
    (fair_links _ _ (λ a f o asked. search rules) (λ a r f f' o o' called. search rules) _ c.requires.0)
    count
    (log_voices l c.args.w.now c.read_voices.new.table (omega arith) c.read_voices.ensures c.write_voices-start.ensures)
    room)
