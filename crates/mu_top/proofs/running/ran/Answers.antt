use Rattle.mu_top.proofs.Completed.{threaded_of}
use Rattle.mu_top.proofs.running.ran.Goals as goal
use Rattle.mu_cluster.proofs.RowsMade.{rows_made}

pub returns-clause-run : goal.returns-clause-run
returns-clause-run g c =
    threaded_of c.in_ok-run.field-0 c.in_ok-job.job c.in_ok-run.ensures.job c.in_ok-job.ensures.config c.in_ok-job.ensures.heads c.in_ok-run.ensures.run c.in_ok-run.ensures.eager c.in_ok-run.ensures.diligent c.in_ok-run.ensures.agrees c.in_ok-run.ensures.lives_if_fair

pub rows_spell_commands-requires-clause-rows : goal.rows_spell_commands-requires-clause-rows
rows_spell_commands-requires-clause-rows g c = rows_made c.args.bytes.now c.in_ok-job.job c.in_ok-job.ensures.reading
