use Rattle.std.proofs.Common.{◌∙◌, ap, arith, refl, sym}
use Rattle.mu_input.proofs.ManyWords.{operation-take}
use Rattle.mu_input.specs.Operations.{operation_of}
use Rattle.mu_text.specs.Lines.{words}
use Rattle.mu_library.proofs.Appending.{appends_said, appends_wrong}
use Rattle.mu_library.proofs.replicas.append_words.Goals as goal

pub returns-in-Ok : goal.returns-in-Ok
returns-in-Ok g c =
    let all = ap operation_of (c.as_slice.ensures ∙ c.of.ensures) ∙ operation-take (words c.args.line.now) in
    appends_said g.at.0 g.at.1 c.args.client c.args.line.now _ _ _ _ _ (omega arith) (sym all ∙ c.in-Ok.ensures.reading) c.append_op.ensures

pub returns-in-Err : goal.returns-in-Err
returns-in-Err g c =
    let all = ap operation_of (c.as_slice.ensures ∙ c.of.ensures) ∙ operation-take (words c.args.line.now) in
    appends_wrong g.at.0 g.at.1 c.args.client c.args.line.now _ _ _ _ _ (omega arith) (sym all ∙ c.in-Err.ensures.reading) (c.refused-in-Err.ensures.status ∙ c.code-in-Err.ensures) c.refused-in-Err.ensures.row refl
