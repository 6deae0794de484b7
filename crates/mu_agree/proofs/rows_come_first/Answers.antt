use Rattle.mu_agree.proofs.Sessions.{rows_come_first_law}
use Rattle.mu_agree.proofs.rows_come_first.Goals as goal

pub returns : goal.returns
returns c = rows_come_first_law
