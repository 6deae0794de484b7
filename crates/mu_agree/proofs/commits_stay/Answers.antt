use Rattle.mu_agree.proofs.Growing.{commits_stay_law}
use Rattle.mu_agree.proofs.commits_stay.Goals as goal

pub returns : goal.returns
returns c = commits_stay_law
