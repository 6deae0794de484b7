use Rattle.mu_model.specs.Histories.{part}
use Rattle.mu_model.proofs.Reasons.{met_where_allowed}
use Rattle.worked_leads.proofs.driven.allows.Goals as goal

pub returns-in-None : goal.returns-in-None
returns-in-None c past legal held is =
    (met_where_allowed c.args.config.now c.args.by (part c.args.by past) c.args.verb.now).0 (c.in-None.ensures past legal held)
