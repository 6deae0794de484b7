use Rattle.mu_engine.proofs.Linear.{sessions_are_linear_law}
use Rattle.mu_engine.proofs.sessions_are_linear.Goals as goal

pub returns : goal.returns
returns c = sessions_are_linear_law
