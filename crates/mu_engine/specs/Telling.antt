-- handed log, tells now: what a replica has handed on to its store, and the reply that an engine
-- tells of a row.
use Rattle.std.specs.Prelude.{List, None, Some, take, ℕ, ◌<◌, ◌≡◌}
use Rattle.std.specs.declared.option.Option.{Option}
use Rattle.kv_store.specs.declared.store.Reply.{Reply}
use Rattle.mu_clients.specs.Attested.{reply_over}
use Rattle.mu_input.specs.declared.job.Job.{Job}
use Rattle.mu_model.specs.declared.config.Config.{Config}
use Rattle.mu_model.specs.declared.event.Event.{Event}
use Rattle.mu_model.specs.Histories.{history, part}
use Rattle.mu_node.specs.Cycle.{handed_before}
use Rattle.mu_outcome.specs.LogsAfter.{log_after}

-- what replica r has handed on to its store after these events: the first entries of its log
abbrev pub handed_log : Config → List Event → ℕ → List ℕ
handed_log c events r = take (handed_before c r (part r (history events))) (log_after c events r)

-- the store's reply to the command of a row over what replica r has handed on, if the row is there
abbrev pub reply_told : Job → List Event → ℕ → ℕ → Option Reply
reply_told job events r row = reply_over job (handed_log job.config events r) row

-- what is told of a row: the reply of some replica, or nothing if none has one
abbrev pub TellsNow : Job → List Event → ℕ → Option Reply → Type 0
TellsNow job events row None =
    (r : ℕ) → r < job.config.replicas → reply_told job events r row ≡ None
TellsNow job events row (Some reply) =
    (r : ℕ) × (r < job.config.replicas) × (reply_told job events r row ≡ Some reply)
