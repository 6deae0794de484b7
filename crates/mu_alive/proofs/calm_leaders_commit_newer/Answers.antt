use Rattle.mu_alive.proofs.Newer.{calm_newer}
use Rattle.mu_alive.proofs.calm_leaders_commit_newer.Goals as goal

pub returns : goal.returns
returns c = calm_newer
