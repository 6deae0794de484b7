use Rattle.mu_inbox.proofs.Running.{accesses_law}
use Rattle.mu_inbox.proofs.accesses_go_on.Goals as goal

pub returns : goal.returns
returns c = accesses_law
