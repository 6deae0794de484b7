use Rattle.std.proofs.Common.{◌++◌, ap}
use Rattle.mu_report.specs.Sentences.{parts_words}
use Rattle.mu_report.proofs.reasons.push_reason.Goals as goal

pub returns-clause-bytes : goal.returns-clause-bytes
returns-clause-bytes c =
    rw c.push_sentence.ensures.bytes (ap (λ parts. c.args.line.now ++ parts_words parts) c.sentence.ensures.is)
