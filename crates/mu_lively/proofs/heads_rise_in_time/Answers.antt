use Rattle.mu_lively.proofs.HeadsRise.{heads_rise_in_time}
use Rattle.mu_lively.proofs.heads_rise_in_time.Goals as goal

pub returns : goal.returns
returns c = heads_rise_in_time
