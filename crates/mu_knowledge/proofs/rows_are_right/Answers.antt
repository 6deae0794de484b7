use Rattle.mu_knowledge.proofs.Rows.{rows_are_right_law}
use Rattle.mu_knowledge.proofs.rows_are_right.Goals as goal

pub returns : goal.returns
returns c = rows_are_right_law
