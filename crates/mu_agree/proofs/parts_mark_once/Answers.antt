use Rattle.mu_agree.proofs.Possible.{parts_mark_once_law}
use Rattle.mu_agree.proofs.parts_mark_once.Goals as goal

pub returns : goal.returns
returns c = parts_mark_once_law
