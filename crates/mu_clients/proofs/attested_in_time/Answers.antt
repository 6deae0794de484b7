use Rattle.mu_clients.proofs.Telling.{attested_in_time}
use Rattle.mu_clients.proofs.attested_in_time.Goals as goal

pub returns : goal.returns
returns c = attested_in_time
