use Rattle.mu_pace.proofs.Leading.{advances_come}
use Rattle.mu_pace.proofs.advances_come_in_time.Goals as goal

pub returns : goal.returns
returns c = advances_come
