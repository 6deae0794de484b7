use Rattle.mu_alive.proofs.Clearing.{old_asks_served}
use Rattle.mu_alive.proofs.old_asks_are_served.Goals as goal

pub returns : goal.returns
returns c = old_asks_served
