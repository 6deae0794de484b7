use Rattle.mu_clients.proofs.Telling.{attested_agree}
use Rattle.mu_clients.proofs.attested_agree.Goals as goal

pub returns : goal.returns
returns c = attested_agree
