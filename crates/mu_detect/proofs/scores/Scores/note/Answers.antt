use Rattle.std.proofs.Common.{◌∙◌}
use Rattle.mu_detect.proofs.scores.Scores.note.Goals as goal

pub returns-then-event-self : goal.returns-then-event-self
returns-then-event-self c n r mine held =
    let read = c.in-ReadBeat-Number in
    c.take.ensures.reads n r mine c.args.event.now (c.if-event-self.true ∙ held.id) read.is-0 read.is-1 held
