-- reached: what a legal list has come to: logs, commits and replies of each replica.
use Rattle.std.specs.Prelude.{List, length, ℕ, ◌<◌, ◌≡◌}
use Rattle.kv_store.specs.Tables.{replies}
use Rattle.mu_model.specs.declared.event.Event.{Event}
use Rattle.mu_model.specs.Histories.{history, part}
use Rattle.mu_model.specs.Knowledge.{applied, commits}
use Rattle.mu_outcome.specs.declared.outcome.Outcome.{Outcome}
use Rattle.mu_outcome.specs.Entries.{commands_in, longest}
use Rattle.mu_outcome.specs.Outcomes.{commits_of, log_of, replies_of}

-- the logs and commits are those that the definitions give of each replica's part of the list, the
-- replies those of the store over the commands of its log, and what is told those of the longest
pub record IsReached (events : List Event) (o : Outcome) : Type 0 where
  pub count : length o.logs ≡ o.job.config.replicas
  pub logs :
      (r : ℕ) → r < o.job.config.replicas
      → log_of o r ≡ applied o.job.config r (part r (history events))
  pub commits :
      (r : ℕ) → r < o.job.config.replicas
      → commits_of o r ≡ commits o.job.config r (part r (history events))
  pub own_replies :
      (r : ℕ) → r < o.job.config.replicas
      → replies_of o r ≡ replies (commands_in o.job (log_of o r))
  pub replies : o.replies ≡ replies (commands_in o.job (longest o.logs))
