use Rattle.mu_agree.proofs.Growing.{applied_stays_law}
use Rattle.mu_agree.proofs.applied_stays.Goals as goal

pub returns : goal.returns
returns c = applied_stays_law
