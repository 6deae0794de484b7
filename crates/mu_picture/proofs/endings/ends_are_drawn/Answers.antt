use Rattle.mu_picture.proofs.LastSteps.{ends_drawn}
use Rattle.mu_picture.proofs.endings.ends_are_drawn.Goals as goal

pub returns : goal.returns
returns c = ends_drawn
