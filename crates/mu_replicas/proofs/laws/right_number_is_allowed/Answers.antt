use Rattle.mu_replicas.proofs.Numbers.{right_allowed}
use Rattle.mu_replicas.proofs.laws.right_number_is_allowed.Goals as goal

pub returns : goal.returns
returns c = right_allowed
