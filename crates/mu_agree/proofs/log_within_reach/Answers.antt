use Rattle.mu_agree.proofs.Reach.{log_within_reach_law}
use Rattle.mu_agree.proofs.log_within_reach.Goals as goal

pub returns : goal.returns
returns c = log_within_reach_law
