use Rattle.lone_replica.proofs.Running.{decided_goes_on_law, goes_on_law}
use Rattle.lone_replica.proofs.accesses_go_on.Goals as goal

pub returns-clause-go_on : goal.returns-clause-go_on
returns-clause-go_on c = goes_on_law

pub returns-clause-knowing : goal.returns-clause-knowing
returns-clause-knowing c = decided_goes_on_law
