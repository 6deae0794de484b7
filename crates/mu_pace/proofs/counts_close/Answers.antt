use Rattle.mu_pace.proofs.Closing.{counts_close}
use Rattle.mu_pace.proofs.counts_close.Goals as goal

pub returns : goal.returns
returns c = counts_close
