use Rattle.mu_replicas.proofs.Points.{none_met}
use Rattle.mu_replicas.proofs.found.Found.is_none.Goals as goal

pub returns : goal.returns
returns c k r past reasons finds = none_met k r past reasons c.args.self.reason c.is_none.result c.is_none.ensures finds
