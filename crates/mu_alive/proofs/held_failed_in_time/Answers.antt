use Rattle.mu_alive.proofs.Failing.{held_failed}
use Rattle.mu_alive.proofs.held_failed_in_time.Goals as goal

pub returns : goal.returns
returns c = held_failed
