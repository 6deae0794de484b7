-- has applied, has finished by: a replica finished with every command within the steps that the job
-- tells, and replied as is told.
use Rattle.std.specs.Prelude.{List, Some, false, length, true, ℕ, ◌<◌, ◌≡◌, ◌≤◌}
use Rattle.std.specs.List.{slice_get}
use Rattle.mu_model.specs.declared.script.End.{End}
use Rattle.mu_model.specs.Contents.{holds_all}
use Rattle.mu_outcome.specs.declared.outcome.Outcome.{Outcome}
use Rattle.mu_outcome.specs.Entries.{commands_in, longest}
use Rattle.mu_outcome.specs.Outcomes.{journal_of, log_of, replies_of}
use Rattle.mu_enough.specs.Finished.{finished_by}
use Rattle.mu_cluster.specs.Outliving.{was_stopped}

-- replica r finished, and its log holds every row
pub record HasApplied (o : Outcome) (r : ℕ) : Type 0 where
  pub heads : List ℕ
  pub ended : slice_get o.ends r ≡ Some (End.Finished heads)
  pub holds : holds_all o.job.config (log_of o r) ≡ true

-- if the job's number is below the budget, each that wasn't stopped has after at most as many events
abbrev pub AppliesEachByThen : Outcome → Type 0
AppliesEachByThen o =
    (m : ℕ) → finished_by o.job.config o.job.script ≡ Some m → m < o.job.config.budget
    → (r : ℕ) → r < o.job.config.replicas → was_stopped o r ≡ false
    → HasApplied o r × (length (journal_of o r) ≤ m)

-- replica r finished after at most m events; its log tells as many commands as the job has, those of
-- the longest log, and it replied as is told
pub record HasFinishedBy (o : Outcome) (m r : ℕ) : Type 0 where
  pub heads : List ℕ
  pub ended : slice_get o.ends r ≡ Some (End.Finished heads)
  pub by_then : length (journal_of o r) ≤ m
  pub all : length (commands_in o.job (log_of o r)) ≡ length o.job.commands
  pub same : commands_in o.job (log_of o r) ≡ commands_in o.job (longest o.logs)
  pub replied : replies_of o r ≡ o.replies

-- so each finishes with every command, and tells the same
abbrev pub FinishesByThen : Outcome → Type 0
FinishesByThen o =
    (m : ℕ) → finished_by o.job.config o.job.script ≡ Some m → m < o.job.config.budget
    → (r : ℕ) → r < o.job.config.replicas → was_stopped o r ≡ false → HasFinishedBy o m r
