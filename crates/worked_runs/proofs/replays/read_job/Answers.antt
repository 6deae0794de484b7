use Rattle.mu_cluster.proofs.RowsMade.{rows_made}
use Rattle.worked_runs.proofs.replays.read_job.Goals as goal

pub returns : goal.returns
returns c = (c.in_ok-job.ensures.config, c.in_ok-job.ensures.heads, rows_made c.as_bytes.result.now c.in_ok-job.job c.in_ok-job.ensures.reading)
