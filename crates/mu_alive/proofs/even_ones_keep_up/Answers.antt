use Rattle.mu_alive.proofs.Fair.{even_keep}
use Rattle.mu_alive.proofs.even_ones_keep_up.Goals as goal

pub returns : goal.returns
returns c = even_keep
