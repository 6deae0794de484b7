use Rattle.mu_lively.proofs.Beside.{paced_beside}
use Rattle.mu_lively.proofs.made_are_paced_beside.Goals as goal

pub returns : goal.returns
returns c = paced_beside
