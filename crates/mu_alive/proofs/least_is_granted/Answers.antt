use Rattle.mu_alive.proofs.Clearing.{least_granted}
use Rattle.mu_alive.proofs.least_is_granted.Goals as goal

pub returns : goal.returns
returns c = least_granted
