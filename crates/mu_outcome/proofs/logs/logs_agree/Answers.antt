use Rattle.mu_outcome.proofs.LogsAgreeing.{logs_agree_law}
use Rattle.mu_outcome.proofs.logs.logs_agree.Goals as goal

pub returns : goal.returns
returns c = logs_agree_law
