-- sequential, linear, replies stay, replies last: the replies of a session are those of one store
-- that takes its commands one by one; the order of its commands respects real time; and what was
-- told of a row stays.
use Rattle.std.specs.Prelude.{List, Some, ℕ, ◌<◌, ◌≡◌, ◌≤◌}
use Rattle.std.specs.List.{slice_get}
use Rattle.kv_store.specs.Commands.{Request}
use Rattle.kv_store.specs.Sessions.{IsInSession}
use Rattle.kv_store.specs.Tables.{replies}
use Rattle.kv_store.specs.declared.store.Reply.{Reply}
use Rattle.mu_clients.specs.Laws.{StandsAfter}
use Rattle.mu_input.specs.declared.job.Job.{Job}
use Rattle.mu_model.specs.declared.event.Event.{Event}
use Rattle.mu_model.specs.Contents.{row_count, rows_in}
use Rattle.mu_model.specs.Histories.{IsPrefixOf}
use Rattle.mu_outcome.specs.Entries.{commands_in}
use Rattle.mu_outcome.specs.LogsAfter.{log_after, longest_after}
use Rattle.mu_engine.specs.Moments.{GoesOn, IsMoment}
use Rattle.mu_engine.specs.Telling.{reply_told}

-- the order of the commands at a moment: that of the longest log
abbrev pub order_after : Job → List Event → List Request
order_after job events = commands_in job (longest_after job.config events)

-- the command of the row stands in the order, and this is the store's reply there
pub record IsReplyOf (order commands : List Request) (row : ℕ) (reply : Reply) : Type 0 where
  pub place : ℕ
  pub command : Request
  pub submitted : slice_get commands row ≡ Some command
  pub ordered : slice_get order place ≡ Some command
  pub replied : slice_get (replies order) place ≡ Some reply

-- one store takes the commands one by one, each client's in order and once, and each reply that is
-- told is its reply
pub record IsSequential (job : Job) (events : List Event) : Type 0 where
  pub sessions : IsInSession (order_after job events)
  pub told :
      (r row : ℕ) (reply : Reply) → r < job.config.replicas
      → reply_told job events r row ≡ Some reply
      → IsReplyOf (order_after job events) job.commands row reply

-- so it is at each of two moments of a session; the order only goes on; and a command that came
-- after another's reply was told stands behind that other in every log
pub record IsLinear (job : Job) (events : List Event) (later : Job)
    (after : List Event) : Type 0 where
  pub before : IsSequential job events
  pub now : IsSequential later after
  pub goes_on : IsPrefixOf (order_after job events) (order_after later after)
  pub in_time :
      (r s sooner newer : ℕ) (reply : Reply) → r < job.config.replicas
      → reply_told job events r sooner ≡ Some reply → row_count job.config ≤ newer
      → StandsAfter sooner newer (rows_in later.config (log_after later.config after s))

-- of three moments of a session the last goes on from the first
abbrev pub GoesFurther : Type 0
GoesFurther =
    (job : Job) (events : List Event) (later : Job) (after : List Event) (last : Job)
    (end : List Event) → GoesOn job events later after → GoesOn later after last end
    → GoesOn job events last end

-- every session is linear
abbrev pub SessionsAreLinear : Type 0
SessionsAreLinear =
    (job : Job) (events : List Event) (later : Job) (after : List Event) → IsMoment job events
    → IsMoment later after → GoesOn job events later after → IsLinear job events later after

-- a reply that was told of a row is the one that is told of it later, by whichever replica
abbrev pub RepliesStay : Type 0
RepliesStay =
    (job : Job) (events : List Event) (later : Job) (after : List Event) (r s row : ℕ)
    (first second : Reply) → IsMoment job events → IsMoment later after
    → GoesOn job events later after → r < job.config.replicas → s < later.config.replicas
    → reply_told job events r row ≡ Some first → reply_told later after s row ≡ Some second
    → first ≡ second

-- and the replica that told it tells it at each later moment: so there is a reply from then on
abbrev pub RepliesLast : Type 0
RepliesLast =
    (job : Job) (events : List Event) (later : Job) (after : List Event) (r row : ℕ)
    (reply : Reply) → IsMoment job events → IsMoment later after
    → GoesOn job events later after → reply_told job events r row ≡ Some reply
    → reply_told later after r row ≡ Some reply
