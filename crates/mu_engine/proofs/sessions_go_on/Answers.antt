use Rattle.mu_engine.proofs.Going.{goes_further_law}
use Rattle.mu_engine.proofs.sessions_go_on.Goals as goal

pub returns : goal.returns
returns c = goes_further_law
