use Rattle.std.proofs.Common.{◌∙◌, ap, subst}
use Rattle.mu_input.specs.Readings.{Tells}
use Rattle.mu_serve.proofs.FirstWords.{session_line-take}
use Rattle.mu_serve.specs.SessionLines.{session_line}
use Rattle.mu_text.specs.Lines.{words}
use Rattle.mu_serve.proofs.session_lines.said_of_whole.Goals as goal

pub returns-clause-reading : goal.returns-clause-reading
returns-clause-reading c =
    subst (Tells c.said_of_words.result)
    (ap (session_line c.args.replicas) (c.as_slice.ensures ∙ c.of.ensures)
    ∙ session_line-take c.args.replicas (words c.args.line.now))
    c.said_of_words.ensures.reading
