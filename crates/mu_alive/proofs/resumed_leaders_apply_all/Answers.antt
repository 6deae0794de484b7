use Rattle.mu_alive.proofs.Resuming.{resumed_applies}
use Rattle.mu_alive.proofs.resumed_leaders_apply_all.Goals as goal

pub returns : goal.returns
returns c = resumed_applies
