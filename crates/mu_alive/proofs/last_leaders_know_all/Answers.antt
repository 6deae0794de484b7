use Rattle.mu_alive.proofs.Lasting.{last_knows_all}
use Rattle.mu_alive.proofs.last_leaders_know_all.Goals as goal

pub returns : goal.returns
returns c = last_knows_all
