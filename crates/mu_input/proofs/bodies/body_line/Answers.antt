use Rattle.std.proofs.Common.{◌∙◌, ap, subst}
use Rattle.mu_input.specs.Bodies.{body_line}
use Rattle.mu_text.specs.Lines.{words}
use Rattle.mu_input.specs.Readings.{Tells}
use Rattle.mu_input.proofs.ManyWords.{body_line-take}
use Rattle.mu_input.proofs.bodies.body_line.Goals as goal

pub returns-clause-reading : goal.returns-clause-reading
returns-clause-reading c =
    subst (Tells c.line_of.result)
    (ap (body_line c.args.clients c.args.commands) (c.as_slice.ensures ∙ c.of.ensures) ∙ body_line-take c.args.clients c.args.commands (words c.args.line.now))
    c.line_of.ensures.reading
