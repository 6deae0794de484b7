use Rattle.mu_engine.proofs.Lasting.{replies_last_law}
use Rattle.mu_engine.proofs.replies_last.Goals as goal

pub returns : goal.returns
returns c = replies_last_law
