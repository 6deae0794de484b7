use Rattle.mu_placing.proofs.filled_logs.Coverage.are_filled.Goals as goal

pub returns : goal.returns
returns c k r p mine held = c.are_filled.ensures k r p mine held.log
