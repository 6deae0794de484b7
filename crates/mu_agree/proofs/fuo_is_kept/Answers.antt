use Rattle.mu_agree.proofs.Prefixes.{fuo_is_kept_law}
use Rattle.mu_agree.proofs.fuo_is_kept.Goals as goal

pub returns : goal.returns
returns c = fuo_is_kept_law
