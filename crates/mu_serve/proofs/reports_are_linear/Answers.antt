use Rattle.mu_serve.proofs.Linear.{reports_are_linear_law}
use Rattle.mu_serve.proofs.reports_are_linear.Goals as goal

pub returns : goal.returns
returns c = reports_are_linear_law
