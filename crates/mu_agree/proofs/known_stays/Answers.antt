use Rattle.mu_agree.proofs.Growing.{known_stays_law}
use Rattle.mu_agree.proofs.known_stays.Goals as goal

pub returns : goal.returns
returns c = known_stays_law
