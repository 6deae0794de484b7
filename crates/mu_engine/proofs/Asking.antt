-- The reply of a node is the one that is told of its replica.
use Rattle.std.proofs.Common.{◌≡◌, ◌∙◌, ℕ, List, ap}
use Rattle.std.specs.declared.option.Option.{Option}
use Rattle.kv_store.specs.Beside.{beside}
use Rattle.kv_store.specs.Tables.{replies}
use Rattle.kv_store.specs.declared.store.Reply.{Reply}
use Rattle.mu_follow.specs.Groups.{groups_of}
use Rattle.mu_input.specs.declared.job.Job.{Job}
use Rattle.mu_model.specs.declared.event.Event.{Event}
use Rattle.mu_model.specs.Contents.{rows_in}
use Rattle.mu_engine.specs.Telling.{handed_log, reply_told}
use Rattle.mu_engine.proofs.Going.{commands_grouped}

pub told_by_node : (job : Job) (events : List Event) (r row : ℕ) (answer : Option Reply)
    → answer ≡ beside row (rows_in job.config (handed_log job.config events r)) (replies (groups_of job.config job.commands (handed_log job.config events r)))
    → answer ≡ reply_told job events r row
told_by_node job events r row answer is =
    is ∙ ap (λ l. beside row (rows_in job.config (handed_log job.config events r)) (replies l)) (commands_grouped job (handed_log job.config events r))
