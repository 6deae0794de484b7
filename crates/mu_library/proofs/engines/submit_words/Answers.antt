use Rattle.std.proofs.Common.{◌∙◌, ap, arith, refl, sym}
use Rattle.mu_input.proofs.ManyWords.{operation-take}
use Rattle.mu_input.specs.Operations.{operation_of}
use Rattle.mu_text.specs.Lines.{words}
use Rattle.mu_library.proofs.Submitting.{refuses_wrong, submits_said}
use Rattle.mu_library.proofs.engines.submit_words.Goals as goal

pub returns-in-Ok : goal.returns-in-Ok
returns-in-Ok c =
    let all = ap operation_of (c.as_slice.ensures ∙ c.of.ensures) ∙ operation-take (words c.args.line.now) in
    submits_said c.args.client c.args.line.now _ _ _ _ _ (omega arith) (sym all ∙ c.in-Ok.ensures.reading) c.submit_op.ensures

pub returns-in-Err : goal.returns-in-Err
returns-in-Err c =
    let all = ap operation_of (c.as_slice.ensures ∙ c.of.ensures) ∙ operation-take (words c.args.line.now) in
    refuses_wrong c.args.client c.args.line.now _ _ _ _ _ (omega arith) (sym all ∙ c.in-Err.ensures.reading) (c.refused-in-Err.ensures.status ∙ c.code.ensures) c.refused-in-Err.ensures.row refl
