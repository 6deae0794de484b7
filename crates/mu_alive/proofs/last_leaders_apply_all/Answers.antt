use Rattle.mu_alive.proofs.Fetching.{last_applies_all}
use Rattle.mu_alive.proofs.last_leaders_apply_all.Goals as goal

pub returns : goal.returns
returns c = last_applies_all
