use Rattle.std.proofs.Common.{◌≡◌, ◌∙◌, Ok, ap, subst, sym}
use Rattle.mu_picture.specs.Drawing.{svg_of}
use Rattle.mu_drawing.specs.Answers.{TellsOfEvents, told_with}
use Rattle.mu_drawing.proofs.Results.{tells_of_events, turned}
use Rattle.mu_drawing.proofs.drawing.drawing_of_events.Goals as goal

pub returns : goal.returns
returns c =
    let job = c.args.job.now in
    let line = c.args.line in
    let picture = c.in_ok-picture.picture in
    let broken = c.in_ok-picture.broken in
    let sheet = c.in_ok-sheet.sheet in
    subst (λ b. TellsOfEvents job line c.args.events.now c.args.asked (told_with (Ok (sheet, b)))) (sym (turned c.is_none.result _ (sym c.is_none.ensures)))
    (tells_of_events job line c.args.events.now c.args.asked picture broken sheet c.in_ok-picture.ensures.explains c.in_ok-picture.ensures.picture
    (c.in_ok-sheet.ensures.drawing ∙ ap (svg_of job line picture) c.breach_in-breach.ensures) c.in_ok-sheet.ensures.document)
