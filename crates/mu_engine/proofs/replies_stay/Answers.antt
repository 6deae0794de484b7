use Rattle.mu_engine.proofs.Linear.{replies_stay_law}
use Rattle.mu_engine.proofs.replies_stay.Goals as goal

pub returns : goal.returns
returns c = replies_stay_law
