use Rattle.std.proofs.Common.{Some, subst}
use Rattle.mu_drawing.specs.Answers.{TellsOfCall}
use Rattle.mu_library.proofs.Outcomes.{drawn}
use Rattle.mu_library.proofs.drawing.draw.Goals as goal

pub returns : goal.returns
returns c =
    let input = c.args.input.now in
    drawn _ c.output_in_memory.result input _ _ _ _ (subst (λ asked. TellsOfCall asked (Some input) (Some input) 0 0 c.output_in_memory.result) c.extent_between.ensures c.output_in_memory.ensures.told) c.tell.ensures
