use Rattle.mu_model.proofs.Reasons.{met_where_allowed}
use Rattle.mu_replicas.proofs.laws.points_are_allowance.Goals as goal

pub returns : goal.returns
returns c = met_where_allowed
