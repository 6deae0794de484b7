use Rattle.mu_agree.proofs.Room.{log_within_fuo_law}
use Rattle.mu_agree.proofs.log_within_fuo.Goals as goal

pub returns : goal.returns
returns c = log_within_fuo_law
