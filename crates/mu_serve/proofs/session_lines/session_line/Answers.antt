use Rattle.mu_serve.proofs.FirstWords.{said_long, said_whole}
use Rattle.mu_serve.proofs.session_lines.session_line.Goals as goal

pub returns-then-line-lt-LINE_BYTES-clause-reading :
    goal.returns-then-line-lt-LINE_BYTES-clause-reading
returns-then-line-lt-LINE_BYTES-clause-reading c = λ line is.
    said_whole c.args.replicas line _ _ _ c.as_slice-line.ensures is
    c.if-line-lt-LINE_BYTES.true c.said_of_whole.ensures.reading

pub returns-else-line-lt-LINE_BYTES-clause-reading :
    goal.returns-else-line-lt-LINE_BYTES-clause-reading
returns-else-line-lt-LINE_BYTES-clause-reading c = λ line is.
    said_long c.args.replicas line _ _ c.as_slice-line.ensures is c.if-line-lt-LINE_BYTES.false
