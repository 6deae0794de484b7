use Rattle.mu_input.proofs.LegalEvents.{spelled-legal}
use Rattle.mu_input.proofs.TraceBack.{trace-back}
use Rattle.mu_input.proofs.traces.traces_are_read_back.Goals as goal

pub returns-clause-spelled : goal.returns-clause-spelled
returns-clause-spelled c = trace-back

pub returns-clause-legal : goal.returns-clause-legal
returns-clause-legal c bytes given events spells legal fits = trace-back bytes given events spells (spelled-legal given.config events legal fits)
