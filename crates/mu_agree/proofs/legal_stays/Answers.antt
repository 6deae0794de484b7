use Rattle.mu_agree.proofs.Growing.{legal_stays_law}
use Rattle.mu_agree.proofs.legal_stays.Goals as goal

pub returns : goal.returns
returns c = legal_stays_law
