use Rattle.mu_top.proofs.Completed.{countable_of, replay_of}
use Rattle.mu_top.proofs.replaying.replayed.Goals as goal
use Rattle.mu_cluster.proofs.RowsMade.{rows_made}

pub returns-clause-replay : goal.returns-clause-replay
returns-clause-replay c =
    replay_of c.in_ok-replay.field-0 c.in_ok-job.job c.in_ok-replay.ensures.job c.in_ok-job.ensures.config c.in_ok-job.ensures.heads c.in_ok-replay.ensures.run c.in_ok-replay.ensures.diligent c.in_ok-replay.ensures.names c.in_ok-replay.ensures.spends c.in_ok-replay.ensures.lives c.in_ok-replay.ensures.leads c.in_ok-replay.ensures.agrees c.in_ok-replay.ensures.gathered

pub returns-clause-countable : goal.returns-clause-countable
returns-clause-countable c =
    countable_of c.in_ok-replay.field-0 c.in_ok-job.job c.in_ok-replay.ensures.job c.in_ok-job.ensures.config c.in_ok-job.ensures.heads c.in_ok-job.ensures.few c.in_ok-job.ensures.lines c.in_ok-replay.ensures.run

pub rows_spell_commands-requires-clause-rows : goal.rows_spell_commands-requires-clause-rows
rows_spell_commands-requires-clause-rows c = rows_made c.args.bytes.now c.in_ok-job.job c.in_ok-job.ensures.reading
