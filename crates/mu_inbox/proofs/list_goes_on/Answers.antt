use Rattle.mu_inbox.proofs.Laws.{list_goes_law}
use Rattle.mu_inbox.proofs.list_goes_on.Goals as goal

pub returns : goal.returns
returns c = list_goes_law
