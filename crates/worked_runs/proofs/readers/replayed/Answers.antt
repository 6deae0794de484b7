use Rattle.mu_cluster.proofs.FewCommands.{few_replayed}
use Rattle.worked_runs.proofs.readers.replayed.Goals as goal

pub returns : goal.returns
returns c =
    let told = c.in_ok-outcome.ensures in
    few_replayed c.in_ok-outcome.outcome c.in_ok-job.job told.job c.in_ok-job.ensures.0 c.in_ok-job.ensures.1 told.run told.agrees told.reach
