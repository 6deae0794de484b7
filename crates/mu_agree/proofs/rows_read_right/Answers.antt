use Rattle.mu_agree.proofs.Sessions.{rows_read_right_law}
use Rattle.mu_agree.proofs.rows_read_right.Goals as goal

pub returns : goal.returns
returns c = rows_read_right_law
