use Rattle.mu_alive.proofs.Bringing.{brought_up}
use Rattle.mu_alive.proofs.followers_are_brought_up.Goals as goal

pub returns : goal.returns
returns c = brought_up
