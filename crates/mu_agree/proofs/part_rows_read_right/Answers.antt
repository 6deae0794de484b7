use Rattle.mu_agree.proofs.Possible.{part_rows_read_right_law}
use Rattle.mu_agree.proofs.part_rows_read_right.Goals as goal

pub returns : goal.returns
returns c = part_rows_read_right_law
