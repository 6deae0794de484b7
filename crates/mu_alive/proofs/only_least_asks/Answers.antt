use Rattle.mu_alive.proofs.Settling.{least_asks}
use Rattle.mu_alive.proofs.only_least_asks.Goals as goal

pub returns : goal.returns
returns c = least_asks
