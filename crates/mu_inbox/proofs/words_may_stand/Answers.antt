use Rattle.mu_inbox.proofs.Right.{right_law}
use Rattle.mu_inbox.proofs.words_may_stand.Goals as goal

pub returns : goal.returns
returns c = right_law
