use Rattle.mu_pace.proofs.Cycles.{machines_are_diligent}
use Rattle.mu_pace.proofs.machines_are_diligent.Goals as goal

pub returns : goal.returns
returns c = machines_are_diligent
