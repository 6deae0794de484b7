use Rattle.mu_agree.proofs.Phases.{at_most_one_chosen_law}
use Rattle.mu_agree.proofs.at_most_one_chosen.Goals as goal

pub returns : goal.returns
returns c = at_most_one_chosen_law
