use Rattle.mu_inbox.proofs.Laws.{one_list_law}
use Rattle.mu_inbox.proofs.one_list.Goals as goal

pub returns : goal.returns
returns c = one_list_law
