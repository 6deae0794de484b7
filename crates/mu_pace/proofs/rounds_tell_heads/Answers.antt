use Rattle.mu_pace.proofs.Cycles.{rounds_tell_heads}
use Rattle.mu_pace.proofs.rounds_tell_heads.Goals as goal

pub returns : goal.returns
returns c = rounds_tell_heads
