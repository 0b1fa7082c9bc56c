-- `text::text` meets its contract, case by case.
-- Assumes nothing.
use Rattle.std.proofs.Common.{refl}
use Rattle.text.proofs.Calls.{left_short, left_called, left_refused}
use Rattle.text.proofs.text.Goals as goal

pub returns-then-text-lt-TEXT_BYTES : goal.returns-then-text-lt-TEXT_BYTES
returns-then-text-lt-TEXT_BYTES c =
    left_short c.args.log.now c.args.text.now c.args.out.now c.args.work.now c.at.result c.at.ensures c.if-text-lt-TEXT_BYTES.true

pub returns-in-Ok : goal.returns-in-Ok
returns-in-Ok c =
    left_called c.args.log.now c.args.text.now c.args.out.now c.args.work.now _ c.words_of.new.words refl c.if-text-lt-TEXT_BYTES.false
    c.put_log.new.text c.put_log.new.out c.put_log.new.work c.in-Ok.count c.put_log.result c.words_of.result c.words_of.ensures c.in-Ok.is
    c.put_log.ensures.call c.put_log.ensures.text

pub returns-in-Err : goal.returns-in-Err
returns-in-Err c =
    left_refused c.args.log.now c.args.text.now c.args.out.now c.args.work.now _ c.words_of.new.words refl c.if-text-lt-TEXT_BYTES.false
    c.put_refusal-bytes.new.text c.put_refusal-bytes.result c.in-Err.refusal c.from-outcome.result c.words_of.result c.words_of.ensures c.in-Err.is
    c.from-outcome.ensures (rw c.number.ensures at c.put_refusal-bytes.ensures)
