use Rattle.mu_alive.proofs.Resuming.{resumed_knows}
use Rattle.mu_alive.proofs.resumed_leaders_know_all.Goals as goal

pub returns : goal.returns
returns c = resumed_knows
