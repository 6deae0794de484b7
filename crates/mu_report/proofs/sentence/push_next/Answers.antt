use Rattle.std.proofs.Common.{ap, map, sym, ◌++◌, ◌∙◌}
use Rattle.mu_report.proofs.Sentences.{with_byte, with_last}
use Rattle.mu_report.specs.Sentences.{sentence, value_words}
use Rattle.mu_report.proofs.sentence.push_next.Goals as goal

pub returns-then-byte-ne-PLACE-clause-bytes : goal.returns-then-byte-ne-PLACE-clause-bytes
returns-then-byte-ne-PLACE-clause-bytes c = λ words.
    with_byte c.args.line.now words c.args.byte c.args.values.now c.if-byte-ne-PLACE.true
    ∙ ap (λ l. l ++ sentence words (map value_words c.args.values.now)) (sym c.push_byte.ensures.bytes)

pub returns-in-None-clause-bytes : goal.returns-in-None-clause-bytes
returns-in-None-clause-bytes c = λ words.
    with_last c.args.line.now words c.args.byte c.args.values.now c.in-None.ensures.cases
    ∙ ap (λ l. l ++ sentence words (map value_words c.args.values.now)) (sym c.push_byte-in-None.ensures.bytes)
