-- `report::call_asked` meets its contract: questions 1 to 10 and 18 to 21 are the reading's, 11 and 12 those of the lent buffers. Assumes nothing.
use mathlib.Core.Path.{◌≡◌, sym, ap, ◌∙◌}
use Rattle.std.proofs.lemmas.Result.{err_from_is_err_and}
use Rattle.logs.specs.Log.{voices_count}
use Rattle.report.proofs.Asked.{asked_read}
use Rattle.report.proofs.call_asked.Goals as goal

pub returns-in_err-lent-clause-answer : goal.returns-in_err-lent-clause-answer
returns-in_err-lent-clause-answer g c =
    λ f of.
    let a = c.args in
    let p = err_from_is_err_and c.from_residual-in_err-lent.result c.from_residual-in_err-lent.ensures.1 in
    let l = c.in_ok-log.log in
    let count : l.voices_words ≡ voices_count a.words.now = l.voices ∙ ap voices_count c.in_ok-log.ensures.same in
    let words : c.need.result ≡ f l.episodes l.to_words (voices_count a.words.now) =
    of l.episodes l.to_words l.voices_words c.need.result c.need.ensures ∙ ap (f l.episodes l.to_words) count in
    rw (p.1, p.2)
    (c.in_err-lent.ensures (l.episodes, l.to_words)
    ∙ rw words (sym (asked_read a.most f a.words.now a.output a.work l.episodes l.to_words (sym c.in_ok-log.ensures.answer))))

pub returns-clause-answer : goal.returns-clause-answer
returns-clause-answer g c =
    λ f of.
    let a = c.args in
    let l = c.in_ok-log.log in
    let count : l.voices_words ≡ voices_count a.words.now = l.voices ∙ ap voices_count c.in_ok-log.ensures.same in
    let words : c.need.result ≡ f l.episodes l.to_words (voices_count a.words.now) =
    of l.episodes l.to_words l.voices_words c.need.result c.need.ensures ∙ ap (f l.episodes l.to_words) count in
    c.in_ok-lent.ensures (l.episodes, l.to_words)
    ∙ rw words (sym (asked_read a.most f a.words.now a.output a.work l.episodes l.to_words (sym c.in_ok-log.ensures.answer)))
