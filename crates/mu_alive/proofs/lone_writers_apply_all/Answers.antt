use Rattle.mu_alive.proofs.Applying.{writer_applies_all}
use Rattle.mu_alive.proofs.lone_writers_apply_all.Goals as goal

pub returns : goal.returns
returns c = writer_applies_all
