use Rattle.mu_alive.proofs.TurnFences.{turns_lead_on}
use Rattle.mu_alive.proofs.turns_lead_on.Goals as goal

pub returns : goal.returns
returns c = turns_lead_on
