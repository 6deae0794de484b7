use Rattle.mu_resp.proofs.Pieces.{refused_justly}
use Rattle.mu_resp.proofs.faults_are_just.Goals as goal

pub returns : goal.returns
returns c = refused_justly
