use Rattle.std.proofs.Common.{rules}
use Rattle.mu_node.proofs.Leads.{due_kept}
use Rattle.mu_node.proofs.planning.Plan.beside.Goals as goal

pub returns-clause-due : goal.returns-clause-due
returns-clause-due c = due_kept c.args.due c.or_beat.result c.is_some.result c.or_beat.ensures (search rules)
