use Rattle.mu_agree.proofs.Phases.{fuo_is_chosen_law}
use Rattle.mu_agree.proofs.fuo_is_chosen.Goals as goal

pub returns : goal.returns
returns c = fuo_is_chosen_law
