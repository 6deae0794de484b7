use Rattle.std.proofs.Common.{◌∙◌, ◌-◌, List, ap, length, subst}
use Rattle.mu_model.specs.declared.event.Event.{Event}
use Rattle.mu_text.specs.Lines.{lines}
use Rattle.mu_drawing.specs.Answers.{TellsOfEvents, told_with}
use Rattle.mu_drawing.proofs.Tooltips.{draws}
use Rattle.mu_drawing.proofs.drawing.drawing.Goals as goal

pub returns : goal.returns
returns c =
    let bytes = c.args.bytes.now in
    let job = c.in_ok-job.job in
    let line = c.first_line-line.result in
    let told = c.drawing_of_events.result in
    draws bytes c.args.asked (record { job = job; events = c.in_ok-job.list }) line told c.in_ok-job.ensures.reading
    (c.first_line-line.ensures ∙ ap (λ (es : List Event). length (lines bytes) - length es) c.as_slice-events.ensures)
    (subst (λ (es : List Event). TellsOfEvents job line es c.args.asked (told_with told)) c.as_slice-events.ensures c.drawing_of_events.ensures)
