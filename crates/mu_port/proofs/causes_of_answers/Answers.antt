use Rattle.std.proofs.Common.{sym, subst}
use Rattle.mu_model.specs.declared.event.Answer.{Answer}
use Rattle.mu_model.specs.Histories.{history}
use Rattle.mu_port.specs.Causes.{HasCauses}
use Rattle.mu_port.proofs.Reasons.{has_causes}
use Rattle.mu_port.proofs.causes_of_answers.Goals as goal

pub returns : goal.returns
returns c config r events after verb answer step = subst (λ (a : Answer). HasCauses config r (history events) verb a) (sym step.answer_is) (has_causes config r (history events) verb)
