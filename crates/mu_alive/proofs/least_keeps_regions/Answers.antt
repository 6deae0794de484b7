use Rattle.mu_alive.proofs.Clearing.{keeps_regions}
use Rattle.mu_alive.proofs.least_keeps_regions.Goals as goal

pub returns : goal.returns
returns c = keeps_regions
