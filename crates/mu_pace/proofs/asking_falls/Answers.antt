use Rattle.mu_pace.proofs.Asking.{asking_falls}
use Rattle.mu_pace.proofs.asking_falls.Goals as goal

pub returns : goal.returns
returns c = asking_falls
