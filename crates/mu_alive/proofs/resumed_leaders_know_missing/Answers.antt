use Rattle.mu_alive.proofs.Resuming.{resumed_missing}
use Rattle.mu_alive.proofs.resumed_leaders_know_missing.Goals as goal

pub returns : goal.returns
returns c = resumed_missing
