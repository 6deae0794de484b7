-- job: the grammar of a job: which bytes spell which job, of settings, commands and a script.
use Rattle.std.specs.Prelude.{ℕ, List}
use Rattle.kv_store.specs.Commands.{Request}
use Rattle.mu_model.specs.declared.script.Script.{Script}
use Rattle.mu_input.specs.Batches.{rows_of}
use Rattle.mu_input.specs.Bodies.{body_at}
use Rattle.mu_text.specs.Lines.{Left, lines}
use Rattle.mu_input.specs.Readings.{Front, Begins, Reading, followed, whole}
use Rattle.mu_input.specs.Scripts.{script_at}
use Rattle.mu_input.specs.Settings.{settings_at}
use Rattle.mu_input.specs.declared.job.Job.{Job}
use Rattle.mu_input.specs.declared.heading.Settings.{Settings}

-- the job of these settings, commands and script
abbrev pub job_of : Settings → List Request → Script → Job
job_of settings commands script = record {
  config = record {
    version = settings.version;
    width = settings.width;
    replicas = settings.replicas;
    ring = settings.ring;
    budget = settings.budget;
    rows = rows_of settings.width commands;
  };
  commands = commands;
  script = script;
}

-- the job with these commands in place of its own
abbrev pub with_commands : List Request → Job → Job
with_commands commands job = record {
  config = record {
    version = job.config.version;
    width = job.config.width;
    replicas = job.config.replicas;
    ring = job.config.ring;
    budget = job.config.budget;
    rows = rows_of job.config.width commands;
  };
  commands = commands;
  script = job.script;
}

-- the settings, the commands, and a script if one follows
abbrev pub job_at : Left → Front Job
job_at left =
    followed (settings_at left) (λ settings left.
    followed (body_at left) (λ body left.
    followed (script_at body.has_script settings.replicas left) (λ script left.
    Begins (job_of settings body.commands script) left)))

-- the lines of an input, counted from 1
abbrev pub all_lines : List ℕ → Left
all_lines bytes = record { number = 1; lines = lines bytes }

-- the job that bytes spell, or the first line that leaves the grammar
abbrev pub job : List ℕ → Reading Job
job bytes = whole (job_at (all_lines bytes))
