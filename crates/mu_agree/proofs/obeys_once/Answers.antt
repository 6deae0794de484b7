use Rattle.mu_agree.proofs.Journals.{obeys_once_law}
use Rattle.mu_agree.proofs.obeys_once.Goals as goal

pub returns : goal.returns
returns c = obeys_once_law
