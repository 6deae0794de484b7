use Rattle.std.proofs.Common.{Some, subst}
use Rattle.mu_library.proofs.Outcomes.{answered}
use Rattle.mu_top.specs.Answers.{Tells}
use Rattle.mu_library.proofs.answering.show.Goals as goal

pub returns : goal.returns
returns c =
    let input = c.args.input.now in
    answered _ c.said_of.result input _ _ _ _ (subst (λ asked. Tells asked (Some input) (Some input) 0 0 c.said_of.result) c.asked_after.ensures.exact c.said_of.ensures.said) c.say.ensures
