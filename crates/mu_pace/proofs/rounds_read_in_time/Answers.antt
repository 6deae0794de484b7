use Rattle.mu_pace.proofs.Cycles.{rounds_read_in_time}
use Rattle.mu_pace.proofs.rounds_read_in_time.Goals as goal

pub returns : goal.returns
returns c = rounds_read_in_time
