use Rattle.mu_alive.proofs.Fair.{fast_found}
use Rattle.mu_alive.proofs.fast_ones_are_found.Goals as goal

pub returns : goal.returns
returns c = fast_found
