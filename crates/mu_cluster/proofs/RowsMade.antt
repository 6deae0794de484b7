-- The rows of a job that bytes spell are those of its commands.
use Rattle.std.proofs.Common.{◌≡◌, List, ℕ, refl}
use Rattle.std.specs.Prelude.{⊤}
use Rattle.mu_input.specs.Batches.{rows_of}
use Rattle.mu_input.specs.Bodies.{body_at}
use Rattle.mu_input.specs.Grammar.{all_lines, job, job_at}
use Rattle.mu_input.specs.Readings.{Fits}
use Rattle.mu_input.specs.Scripts.{script_at}
use Rattle.mu_input.specs.Settings.{settings_at}
use Rattle.mu_input.specs.declared.job.Job.{Job}
use Rattle.mu_input.proofs.Fronts.{fits_whole, gives_always, gives_followed}

abbrev HasRows : Job → Type 0
HasRows j = j.config.rows ≡ rows_of j.config.width j.commands

pub rows_made : (bytes : List ℕ) (given : Job) → job bytes ≡ Fits given → given.config.rows ≡ rows_of given.config.width given.commands
rows_made bytes given is =
    fits_whole HasRows (job_at (all_lines bytes)) given
    (gives_followed HasRows (λ _. ⊤) (settings_at (all_lines bytes)) _ (gives_always (settings_at (all_lines bytes)))
    (λ settings left _. gives_followed HasRows (λ _. ⊤) (body_at left) _ (gives_always (body_at left))
    (λ body left _. gives_followed HasRows (λ _. ⊤) (script_at body.has_script settings.replicas left) _ (gives_always (script_at body.has_script settings.replicas left))
    (λ script left _. refl)))) is
