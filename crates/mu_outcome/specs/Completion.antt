-- completion: which commands of its job a run told, and how its replicas ended if one is missing.
use Rattle.std.specs.Prelude.{ℕ, ◌≡◌, ◌<◌, ◌↔◌, Some, slice_get, Contains, ⊤}
use Rattle.kv_store.specs.Commands.{Request}
use Rattle.mu_model.specs.declared.script.End.{End}
use Rattle.mu_outcome.specs.declared.outcome.Outcome.{Outcome}
use Rattle.mu_outcome.specs.declared.status.Status.{Status}
use Rattle.mu_outcome.specs.Entries.{commands_in, longest}
use Rattle.mu_outcome.specs.Outcomes.{status_after}

-- every command of the job is in the longest log
abbrev pub HasAllCommands : Outcome → Type 0
HasAllCommands o =
    (j : ℕ) (command : Request) → slice_get o.job.commands j ≡ Some command
    → Contains (commands_in o.job (longest o.logs)) command

-- an end at which a replica need not have applied all commands
abbrev pub IsCutShort : End → Type 0
IsCutShort End.Stopped = ⊤
IsCutShort End.Budget = ⊤
IsCutShort (End.Outrun p i) = ⊤
IsCutShort (End.Finished heads) = ⊥

-- the status is done exactly if every command of the job is in the longest log, and unfinished
-- exactly if some command isn't; then each replica was stopped, spent its budget or was outrun
pub record Completes (o : Outcome) : Type 0 where
  pub done : (status_after o ≡ Status.Done) ↔ HasAllCommands o
  pub unfinished : (status_after o ≡ Status.Unfinished) ↔ ¬ HasAllCommands o
  pub cut_short :
      ¬ HasAllCommands o → (r : ℕ) → r < o.job.config.replicas
      → (end : End) × (slice_get o.ends r ≡ Some end) × IsCutShort end
