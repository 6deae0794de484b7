use Rattle.mu_alive.proofs.Following.{follows_up}
use Rattle.mu_alive.proofs.followers_catch_up.Goals as goal

pub returns : goal.returns
returns c = follows_up
