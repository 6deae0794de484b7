use Rattle.mu_pace.proofs.Weights.{weights_fall}
use Rattle.mu_pace.proofs.weights_fall.Goals as goal

pub returns : goal.returns
returns c = weights_fall
