-- run over a list: runs whose order of turns isn't stated.
use Rattle.std.specs.Prelude.{List, None, Some, length, ℕ, ◌<◌, ◌≡◌}
use Rattle.std.specs.List.{slice_get}
use Rattle.kv_store.specs.Tables.{replies}
use Rattle.mu_model.specs.declared.event.Event.{Event}
use Rattle.mu_model.specs.declared.script.End.{End}
use Rattle.mu_model.specs.Ends.{Obeys}
use Rattle.mu_model.specs.Histories.{history}
use Rattle.mu_model.specs.Knowledge.{applied, commits}
use Rattle.mu_model.specs.Legal.{IsLegal}
use Rattle.mu_model.specs.Parts.{HasParts}
use Rattle.shared_fabric.specs.Gathering.{Collected}
use Rattle.mu_outcome.specs.declared.outcome.Outcome.{Outcome}
use Rattle.mu_outcome.specs.Entries.{commands_in, longest}
use Rattle.mu_outcome.specs.Outcomes.{commits_of, journal_of, journals_of, log_of, replies_of}

-- the list is legal and has the journals as its parts; each journal ends exactly there; the logs,
-- commits, ends and replies are those that the definitions give of the journals, each replica's
-- replies those over its own log
pub record IsRunOver (events : List Event) (o : Outcome) : Type 0 where
  pub legal : IsLegal o.job.config events
  pub parts : HasParts o.job.config events (journals_of o)
  pub counts :
      (length o.logs ≡ o.job.config.replicas) × (length o.commits ≡ o.job.config.replicas)
      × (length o.ends ≡ o.job.config.replicas)
  pub ended :
      (r : ℕ) → r < o.job.config.replicas
      → (end : End) × (slice_get o.ends r ≡ Some end)
      × Obeys o.job.config o.job.script r (history (journal_of o r)) end
  pub logs :
      (r : ℕ) → r < o.job.config.replicas
      → log_of o r ≡ applied o.job.config r (history (journal_of o r))
  pub commits :
      (r : ℕ) → r < o.job.config.replicas
      → commits_of o r ≡ commits o.job.config r (history (journal_of o r))
  pub reply_count : length o.own_replies ≡ o.job.config.replicas
  pub own_replies :
      (r : ℕ) → r < o.job.config.replicas
      → replies_of o r ≡ replies (commands_in o.job (log_of o r))
  pub replies : o.replies ≡ replies (commands_in o.job (longest o.logs))

-- the outcome is a run of its job by threads: no order is given, so the journals are the parts that
-- were gathered, and some legal list has them
pub record IsThreadRun (o : Outcome) : Type 0 where
  pub no_order : o.order ≡ None
  pub gathered : Collected
  pub given : o.gathered ≡ Some gathered
  pub config : gathered.config ≡ o.job.config
  pub events : List Event
  pub over : IsRunOver events o
