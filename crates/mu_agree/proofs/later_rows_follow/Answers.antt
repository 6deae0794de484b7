use Rattle.mu_agree.proofs.Growing.{later_rows_follow_law}
use Rattle.mu_agree.proofs.later_rows_follow.Goals as goal

pub returns : goal.returns
returns c = later_rows_follow_law
