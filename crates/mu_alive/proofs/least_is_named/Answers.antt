use Rattle.mu_alive.proofs.Settling.{least_named}
use Rattle.mu_alive.proofs.least_is_named.Goals as goal

pub returns : goal.returns
returns c = least_named
