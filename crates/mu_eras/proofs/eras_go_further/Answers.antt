use Rattle.mu_eras.proofs.Rows.{eras_go_further_law}
use Rattle.mu_eras.proofs.eras_go_further.Goals as goal

pub returns : goal.returns
returns c = eras_go_further_law
