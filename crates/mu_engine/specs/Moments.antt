-- moment, goes on: the commands and the events so far of a session, and two moments of one session.
use Rattle.std.specs.Prelude.{List, ◌++◌, ◌≡◌}
use Rattle.kv_store.specs.Commands.{Request}
use Rattle.mu_follow.specs.Groups.{AreSpelled}
use Rattle.mu_input.specs.Heads.{HaveHeads}
use Rattle.mu_input.specs.declared.job.Job.{Job}
use Rattle.mu_model.specs.declared.config.Row.{Row}
use Rattle.mu_model.specs.declared.event.Event.{Event}
use Rattle.mu_model.specs.Contents.{IsConfig}
use Rattle.mu_model.specs.Growing.{with_more}
use Rattle.mu_model.specs.Legal.{IsLegal}

-- the events are a legal list of the commands, which the rows spell
pub record IsMoment (job : Job) (events : List Event) : Type 0 where
  pub config : IsConfig job.config
  pub heads : HaveHeads job.config.width job.commands job.config.rows
  pub spelled : AreSpelled job.config job.commands
  pub legal : IsLegal job.config events

-- a later moment of the session: commands with their rows may have come, and events
pub record GoesOn (job : Job) (events : List Event) (later : Job)
    (after : List Event) : Type 0 where
  pub rows : List Row
  pub commands : List Request
  pub steps : List Event
  pub config_is : later.config ≡ with_more job.config rows
  pub commands_are : later.commands ≡ job.commands ++ commands
  pub events_are : after ≡ events ++ steps
