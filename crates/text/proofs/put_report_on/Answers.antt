-- `text::put_report_on` meets its contract: the log has a head, which gives n, and a link count.
-- Assumes nothing.
use Rattle.std.proofs.Common.{ap}
use Rattle.std.specs.Result.{is_ok}
use Rattle.text.proofs.Outcomes.{head_there, links_counted, links_are}
use Rattle.text.proofs.put_report_on.Goals as goal

pub bounds-log-0 : goal.bounds-log-0
bounds-log-0 c = head_there c.args.log.now c.requires.0

pub unwrap-links-requires : goal.unwrap-links-requires
unwrap-links-requires c = ap is_ok (links_counted c.args.log.now c.requires.0 c.link_count.result c.link_count.ensures)

pub put_report-requires : goal.put_report-requires
put_report-requires c =
    let links = links_are c.args.log.now c.requires.0 c.link_count.result c.unwrap-links.result c.link_count.ensures c.unwrap-links.ensures in
    rw (c.from-episodes.ensures.1, links) c.requires.1

pub returns : goal.returns
returns c =
    let links = links_are c.args.log.now c.requires.0 c.link_count.result c.unwrap-links.result c.link_count.ensures c.unwrap-links.ensures in
    rw (c.from-episodes.ensures.1, links) at c.put_report.ensures
