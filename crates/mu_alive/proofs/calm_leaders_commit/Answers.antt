use Rattle.mu_alive.proofs.Calm.{calm_commits}
use Rattle.mu_alive.proofs.calm_leaders_commit.Goals as goal

pub returns : goal.returns
returns c = calm_commits
