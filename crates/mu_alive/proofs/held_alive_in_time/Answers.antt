use Rattle.mu_alive.proofs.Finding.{held_alive}
use Rattle.mu_alive.proofs.held_alive_in_time.Goals as goal

pub returns : goal.returns
returns c = held_alive
