use Rattle.mu_agree.proofs.Evidence.{misses_shut_out_law}
use Rattle.mu_agree.proofs.misses_shut_out.Goals as goal

pub returns : goal.returns
returns c = misses_shut_out_law
