use Rattle.mu_agree.proofs.Prefixes.{known_agree_law}
use Rattle.mu_agree.proofs.known_agree.Goals as goal

pub returns : goal.returns
returns c = known_agree_law
