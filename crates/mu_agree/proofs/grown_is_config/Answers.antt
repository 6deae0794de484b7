use Rattle.mu_agree.proofs.Growing.{grown_is_config_law}
use Rattle.mu_agree.proofs.grown_is_config.Goals as goal

pub returns : goal.returns
returns c = grown_is_config_law
