use Rattle.mu_top.proofs.Completed.{countable_of, eager_of}
use Rattle.mu_top.proofs.eager.replayed_eagerly.Goals as goal
use Rattle.mu_cluster.proofs.RowsMade.{rows_made}

pub returns-clause-replay : goal.returns-clause-replay
returns-clause-replay c =
    eager_of c.in_ok-eager_replay.field-0 c.in_ok-job.job c.in_ok-eager_replay.ensures.job c.in_ok-job.ensures.config c.in_ok-job.ensures.heads c.in_ok-eager_replay.ensures.run c.in_ok-eager_replay.ensures.eager c.in_ok-eager_replay.ensures.diligent c.in_ok-eager_replay.ensures.names c.in_ok-eager_replay.ensures.spends c.in_ok-eager_replay.ensures.agrees c.in_ok-eager_replay.ensures.gathered

pub returns-clause-countable : goal.returns-clause-countable
returns-clause-countable c =
    countable_of c.in_ok-eager_replay.field-0 c.in_ok-job.job c.in_ok-eager_replay.ensures.job c.in_ok-job.ensures.config c.in_ok-job.ensures.heads c.in_ok-job.ensures.few c.in_ok-job.ensures.lines c.in_ok-eager_replay.ensures.run

pub rows_spell_commands-requires-clause-rows : goal.rows_spell_commands-requires-clause-rows
rows_spell_commands-requires-clause-rows c = rows_made c.args.bytes.now c.in_ok-job.job c.in_ok-job.ensures.reading
