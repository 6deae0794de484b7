use Rattle.mu_alive.proofs.LastRaising.{last_raises_all}
use Rattle.mu_alive.proofs.last_leaders_raise_all.Goals as goal

pub returns : goal.returns
returns c = last_raises_all
