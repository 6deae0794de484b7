use Rattle.mu_lively.proofs.HostRounds.{cycles, rounds}
use Rattle.mu_lively.proofs.grants_within_the_cycle.Goals as goal

pub returns-clause-round : goal.returns-clause-round
returns-clause-round c = rounds

pub returns-clause-cycle : goal.returns-clause-cycle
returns-clause-cycle c = cycles
