-- stays alive: a replay has every command, and each replica that isn't stopped finishes, by numbers
-- of steps of its job alone, if the budget is enough for them.
use Rattle.mu_outcome.specs.declared.outcome.Outcome.{Outcome}
use Rattle.mu_cluster.specs.Committing.{CommitsByThen}
use Rattle.mu_cluster.specs.Finishing.{FinishesByThen}

-- a replay stays alive: by the job's number for commands, if there is one within the budget, a
-- replica has every command; by its number for finishing, if there is one below the budget, each
-- that isn't stopped has finished with them
pub record StaysAlive (o : Outcome) : Type 0 where
  pub committed : CommitsByThen o
  pub finished : FinishesByThen o
