-- has all by, commits by then: a replica has every command in its log within the steps that the job
-- tells.
use Rattle.std.specs.Prelude.{Some, take, true, ℕ, ◌<◌, ◌≡◌, ◌≤◌, ◌⊎◌}
use Rattle.mu_model.specs.Contents.{holds_all}
use Rattle.mu_model.specs.Histories.{history}
use Rattle.mu_model.specs.Knowledge.{applied}
use Rattle.mu_outcome.specs.declared.outcome.Outcome.{Outcome}
use Rattle.mu_outcome.specs.Completion.{HasAllCommands}
use Rattle.mu_outcome.specs.Outcomes.{journal_of}
use Rattle.mu_cluster.specs.Finishing.{HasApplied}
use Rattle.mu_enough.specs.Committed.{committed_by}
use Rattle.mu_enough.specs.Lines.{has_pause}
use Rattle.mu_cluster.specs.Outliving.{GoesOnWith}

-- a replica has every row in its log after at most m events: the least that goes on with a
-- majority; or, after pauses, another that has finished
pub record HasAllBy (o : Outcome) (m : ℕ) : Type 0 where
  pub by : ℕ
  pub inside : by < o.job.config.replicas
  pub who : GoesOnWith o by ⊎ (has_pause o.job.script ≡ true) × HasApplied o by
  pub holds :
      holds_all o.job.config
      (applied o.job.config by (history (take m (journal_of o by))))
      ≡ true

-- if the job's number is within the budget, one has by then
abbrev pub AppliesAllByThen : Outcome → Type 0
AppliesAllByThen o =
    (m : ℕ) → committed_by o.job.config o.job.script ≡ Some m → m ≤ o.job.config.budget
    → HasAllBy o m

-- and at the end the longest log has
abbrev pub CommitsByThen : Outcome → Type 0
CommitsByThen o =
    (m : ℕ) → committed_by o.job.config o.job.script ≡ Some m → m ≤ o.job.config.budget
    → HasAllBy o m × HasAllCommands o
