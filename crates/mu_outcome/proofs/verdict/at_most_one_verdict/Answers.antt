use Rattle.mu_outcome.proofs.Deciding.{one_verdict}
use Rattle.mu_outcome.proofs.verdict.at_most_one_verdict.Goals as goal

pub returns : goal.returns
returns c = one_verdict
