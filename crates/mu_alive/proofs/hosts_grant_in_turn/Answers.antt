use Rattle.mu_alive.proofs.TurnGrants.{hosts_grant}
use Rattle.mu_alive.proofs.hosts_grant_in_turn.Goals as goal

pub returns : goal.returns
returns c = hosts_grant
