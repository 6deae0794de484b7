use Rattle.mu_serve.proofs.Linear.{talks_are_linear_law}
use Rattle.mu_serve.proofs.talks_are_linear.Goals as goal

pub returns : goal.returns
returns c = talks_are_linear_law
