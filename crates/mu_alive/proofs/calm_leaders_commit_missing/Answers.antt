use Rattle.mu_alive.proofs.Missing.{calm_missing}
use Rattle.mu_alive.proofs.calm_leaders_commit_missing.Goals as goal

pub returns : goal.returns
returns c = calm_missing
