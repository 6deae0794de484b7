use Rattle.mu_agree.proofs.Minimum.{minimum_rises_law}
use Rattle.mu_agree.proofs.minimum_rises.Goals as goal

pub returns : goal.returns
returns c = minimum_rises_law
