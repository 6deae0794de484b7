use Rattle.mu_agree.proofs.Room.{head_within_fuo_law}
use Rattle.mu_agree.proofs.head_within_fuo.Goals as goal

pub returns : goal.returns
returns c = head_within_fuo_law
