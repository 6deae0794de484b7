use Rattle.mu_agree.proofs.Phases.{known_is_chosen_law}
use Rattle.mu_agree.proofs.known_is_chosen.Goals as goal

pub returns : goal.returns
returns c = known_is_chosen_law
