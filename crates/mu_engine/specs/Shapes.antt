-- within limits, first job: what an engine may be started with, and its job before any command.
use Rattle.std.specs.Prelude.{[], ◌≤◌}
use Rattle.mu_input.specs.declared.job.Job.{Job}
use Rattle.mu_model.specs.declared.config.Config.{Config}
use Rattle.mu_model.specs.declared.script.Script.{Script}
use Rattle.mu_engine.specs.declared.shape.Shape.{Shape}

-- the numbers are those of a job, and there may be as many commands
pub record HasLimits (shape : Shape) : Type 0 where
  pub replicas : (1 ≤ shape.replicas) × (shape.replicas ≤ 7)
  pub ring : (8 ≤ shape.ring) × (shape.ring ≤ 1024)
  pub budget : (1 ≤ shape.budget) × (shape.budget ≤ 131071)
  pub room : shape.room ≤ 1500

-- nothing befalls the replicas by a script
abbrev pub no_script : Script
no_script = record { stops = []; pauses = [] }

-- the configuration before any command: version 2, whose batches have one command each
abbrev pub first_config : Shape → Config
first_config shape = record {
  version = 2;
  width = 1;
  replicas = shape.replicas;
  ring = shape.ring;
  budget = shape.budget;
  rows = [];
}

-- the job before any command
abbrev pub first_job : Shape → Job
first_job shape = record { config = first_config shape; commands = []; script = no_script }
