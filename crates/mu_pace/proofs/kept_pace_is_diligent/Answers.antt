use Rattle.mu_pace.proofs.Keeping.{kept_pace_is_diligent}
use Rattle.mu_pace.proofs.kept_pace_is_diligent.Goals as goal

pub returns : goal.returns
returns c = kept_pace_is_diligent
