use Rattle.mu_alive.proofs.Stopping.{last_applies}
use Rattle.mu_alive.proofs.last_leaders_apply_all_in_any_ring.Goals as goal

pub returns : goal.returns
returns c = last_applies
