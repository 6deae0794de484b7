use Rattle.std.proofs.Common.{◌∙◌, ap, sym}
use Rattle.std.proofs.lemmas.Result.{err_from_is_err_and}
use Rattle.mu_input.specs.Traces.{EventsLeft, trace_after}
use Rattle.mu_input.proofs.Taking.{after_end}
use Rattle.mu_input.proofs.traces.EventLines.next.Goals as goal

pub returns-in_err-read_end-clause-reading : goal.returns-in_err-read_end-clause-reading
returns-in_err-read_end-clause-reading c = λ bytes job past held.
    let p = err_from_is_err_and c.from_residual.result c.from_residual.ensures.1 in
    let reading = held.reading ∙ ap (λ (lines : EventsLeft). trace_after job past lines.left) (sym c.self.view_is) in
    rw (p.1, p.2) (after_end bytes job past c.self.inside.lines c.next.new.self c.in-Some.text.now c.in_err-read_end.field-0.0 reading c.in-Some.ensures.0 c.in-Some.ensures.1
    (sym c.is_end.ensures ∙ c.if-is_end.true) c.in_err-read_end.ensures.ends)
