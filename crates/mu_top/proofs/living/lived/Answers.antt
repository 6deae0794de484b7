use Rattle.mu_cluster.proofs.FewCommands.{few_replayed}
use Rattle.mu_top.proofs.Completed.{replay_of}
use Rattle.mu_top.proofs.Sighted.{short_sights}
use Rattle.mu_top.proofs.living.lived.Goals as goal
use Rattle.mu_cluster.proofs.RowsMade.{rows_made}

pub live-requires-clause-few : goal.live-requires-clause-few
live-requires-clause-few g c κs within =
    few_replayed c.in_ok-outcome.outcome c.in_ok-job.job c.in_ok-outcome.ensures.job c.in_ok-job.ensures.config c.in_ok-job.ensures.heads c.in_ok-outcome.ensures.run c.in_ok-outcome.ensures.agrees c.in_ok-outcome.ensures.reach

pub returns-clause-replay : goal.returns-clause-replay
returns-clause-replay g c =
    replay_of c.in_ok-outcome.outcome c.in_ok-job.job c.in_ok-outcome.ensures.job c.in_ok-job.ensures.config c.in_ok-job.ensures.heads c.in_ok-outcome.ensures.run c.in_ok-outcome.ensures.diligent c.in_ok-outcome.ensures.names c.in_ok-outcome.ensures.spends c.in_ok-outcome.ensures.lives c.in_ok-outcome.ensures.leads c.in_ok-outcome.ensures.agrees c.in_ok-outcome.ensures.gathered

pub returns-clause-few : goal.returns-clause-few
returns-clause-few g c =
    short_sights c.in_ok-outcome.outcome c.args.readers _ c.requires.1
    (few_replayed c.in_ok-outcome.outcome c.in_ok-job.job c.in_ok-outcome.ensures.job c.in_ok-job.ensures.config c.in_ok-job.ensures.heads c.in_ok-outcome.ensures.run c.in_ok-outcome.ensures.agrees c.in_ok-outcome.ensures.reach)
    c.in_ok-lived.ensures

pub rows_spell_commands-requires-clause-rows : goal.rows_spell_commands-requires-clause-rows
rows_spell_commands-requires-clause-rows g c = rows_made c.args.bytes.now c.in_ok-job.job c.in_ok-job.ensures.reading
