use Rattle.mu_resp.proofs.Pieces.{refused_for_good}
use Rattle.mu_resp.proofs.faults_are_for_good.Goals as goal

pub returns : goal.returns
returns c = refused_for_good
