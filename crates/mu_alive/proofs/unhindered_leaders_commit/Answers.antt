use Rattle.mu_alive.proofs.Unhindered.{unhindered_commit}
use Rattle.mu_alive.proofs.unhindered_leaders_commit.Goals as goal

pub returns : goal.returns
returns c = unhindered_commit
