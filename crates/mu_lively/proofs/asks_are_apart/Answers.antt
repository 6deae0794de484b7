use Rattle.mu_lively.proofs.Apart.{asks_are_apart}
use Rattle.mu_lively.proofs.asks_are_apart.Goals as goal

pub returns : goal.returns
returns c = asks_are_apart
