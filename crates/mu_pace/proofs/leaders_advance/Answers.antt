use Rattle.mu_pace.proofs.Cycles.{leaders_advance}
use Rattle.mu_pace.proofs.leaders_advance.Goals as goal

pub returns : goal.returns
returns c = leaders_advance
