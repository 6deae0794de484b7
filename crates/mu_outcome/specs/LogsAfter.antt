-- log after, agrees now: what the replicas have applied at a moment of a list, and that they agree
-- there.
use Rattle.std.specs.Prelude.{List, Some, [], length, suc, zero, ℕ, ◌++◌, ◌<◌, ◌∷◌, ◌≡◌, ◌⊎◌}
use Rattle.std.specs.List.{slice_get}
use Rattle.kv_store.specs.Sessions.{IsInSession}
use Rattle.kv_store.specs.Tables.{replies}
use Rattle.kv_store.specs.declared.store.Reply.{Reply}
use Rattle.mu_input.specs.Heads.{HaveHeads}
use Rattle.mu_input.specs.declared.job.Job.{Job}
use Rattle.mu_model.specs.declared.config.Config.{Config}
use Rattle.mu_model.specs.declared.event.Event.{Event}
use Rattle.mu_model.specs.Contents.{IsConfig, StandsForEntry}
use Rattle.mu_model.specs.Histories.{IsPrefixOf, history, part}
use Rattle.mu_model.specs.Knowledge.{applied, commits}
use Rattle.mu_model.specs.Legal.{IsLegal}
use Rattle.mu_outcome.specs.Entries.{commands_in, longest}

-- what replica r has applied after these events
abbrev pub log_after : Config → List Event → ℕ → List ℕ
log_after c events r = applied c r (part r (history events))

-- the logs of the replicas below n, in order of id
abbrev pub logs_after : Config → List Event → ℕ → List (List ℕ)
logs_after c events zero = []
logs_after c events (suc n) = logs_after c events n ++ log_after c events n ∷ []

-- the longest log, the first at a tie
abbrev pub longest_after : Config → List Event → List ℕ
longest_after c events = longest (logs_after c events c.replicas)

-- the store's replies to the commands of the longest log
abbrev pub replies_after : Job → List Event → List Reply
replies_after job events = replies (commands_in job (longest_after job.config events))

-- the replicas agree at this moment
pub record AgreesNow (job : Job) (events : List Event) : Type 0 where
  -- of any two logs one begins the other
  pub prefixes :
      (r s : ℕ)
      → IsPrefixOf (log_after job.config events r) (log_after job.config events s)
      ⊎ IsPrefixOf (log_after job.config events s) (log_after job.config events r)
  -- every entry is a batch of the job's commands, or a mark
  pub entries :
      (r i v : ℕ) → slice_get (log_after job.config events r) i ≡ Some v
      → StandsForEntry job.config v
  -- each client's commands stand in order and once
  pub sessions : (r : ℕ) → IsInSession (commands_in job (log_after job.config events r))
  -- what a replica committed at a position stands there in every log that reaches it
  pub committed :
      (r s k i v : ℕ)
      → slice_get (commits job.config r (part r (history events))) k ≡ Some (i, v)
      → i < length (log_after job.config events s)
      → slice_get (log_after job.config events s) i ≡ Some v
  -- each log begins the longest
  pub begin :
      (r : ℕ) → r < job.config.replicas
      → IsPrefixOf (log_after job.config events r) (longest_after job.config events)
  -- and the store's replies over it begin those over the longest
  pub replied :
      (r : ℕ) → r < job.config.replicas
      → IsPrefixOf (replies (commands_in job (log_after job.config events r)))
      (replies_after job events)

-- so they do at each moment of every legal list
abbrev pub LogsAgree : Type 0
LogsAgree =
    (job : Job) (events : List Event) → IsConfig job.config
    → HaveHeads job.config.width job.commands job.config.rows → IsLegal job.config events
    → AgreesNow job events
