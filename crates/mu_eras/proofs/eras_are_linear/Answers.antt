use Rattle.mu_eras.proofs.Linear.{eras_are_linear_law}
use Rattle.mu_eras.proofs.eras_are_linear.Goals as goal

pub returns : goal.returns
returns c = eras_are_linear_law
