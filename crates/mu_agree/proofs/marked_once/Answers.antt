use Rattle.mu_agree.proofs.Sessions.{marked_once_law}
use Rattle.mu_agree.proofs.marked_once.Goals as goal

pub returns : goal.returns
returns c = marked_once_law
