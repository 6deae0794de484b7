-- collected: the parts of a job that collecting keeps.
use Rattle.std.specs.Prelude.{◌≡◌}
use Rattle.mu_input.specs.Batches.{rows_of}
use Rattle.mu_input.specs.declared.job.Job.{Job}

-- the numbers and the script are those of the job, and the rows encode the commands that arrived
pub record IsCollected (job collected : Job) : Type 0 where
  pub version : collected.config.version ≡ job.config.version
  pub width : collected.config.width ≡ job.config.width
  pub replicas : collected.config.replicas ≡ job.config.replicas
  pub ring : collected.config.ring ≡ job.config.ring
  pub budget : collected.config.budget ≡ job.config.budget
  pub script : collected.script ≡ job.script
  pub rows : collected.config.rows ≡ rows_of job.config.width collected.commands
