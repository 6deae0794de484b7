-- era, order over eras, submitted over eras, linear over eras: eras of an engine that follow one
-- another, the order of all commands, and what holds of the replies from outside.
use Rattle.std.specs.Prelude.{List, Some, [], length, map, ℕ, ◌++◌, ◌<◌, ◌≡◌, ◌≤◌, ◌∷◌, ◌⊎◌}
use Rattle.std.specs.declared.option.Option.{Option}
use Rattle.std.specs.List.{slice_get}
use Rattle.kv_store.specs.Beside.{beside}
use Rattle.kv_store.specs.Commands.{Request}
use Rattle.kv_store.specs.Sessions.{IsInSession}
use Rattle.kv_store.specs.Tables.{Table, replies, replies_from, store}
use Rattle.kv_store.specs.declared.store.Reply.{Reply}
use Rattle.mu_input.specs.declared.job.Job.{Job}
use Rattle.mu_model.specs.declared.event.Event.{Event}
use Rattle.mu_model.specs.Contents.{rows_in}
use Rattle.mu_model.specs.Histories.{IsPrefixOf}
use Rattle.mu_outcome.specs.Entries.{commands_in}
use Rattle.mu_engine.specs.Laws.{order_after}
use Rattle.mu_engine.specs.Moments.{GoesOn, IsMoment}
use Rattle.mu_engine.specs.Telling.{handed_log}
use Rattle.mu_eras.specs.Orders.{numbered_after, over_eras}

-- an era: its commands and its events, or those so far
pub record Era : Type 0 where
  pub job : Job
  pub events : List Event

-- the commands of the longest log of each era, with the newest first
abbrev pub orders_of : List Era → List (List Request)
orders_of [] = []
orders_of (era ∷ eras) = order_after era.job era.events ∷ orders_of eras

-- the commands of the longest logs of these eras, one after the other
abbrev pub order_of : List Era → List Request
order_of eras = over_eras (orders_of eras)

-- the commands that were submitted in these eras, in the order in which they came, each client's
-- numbers going on
abbrev pub submitted_over : List Era → List Request
submitted_over [] = []
submitted_over (era ∷ past) =
    submitted_over past ++ map (numbered_after (order_of past)) era.job.commands

-- each is an era: its events are a legal list of its commands
abbrev pub AreEras : List Era → Type 0
AreEras [] = Unit {0}
AreEras (era ∷ eras) = IsMoment era.job era.events × AreEras eras

-- the reply to the command of a row over a log, by a store that began as this table
abbrev pub reply_from : Table → Job → List ℕ → ℕ → Option Reply
reply_from base job log row =
    beside row (rows_in job.config log) (replies_from base (commands_in job log))

-- the reply that replica r tells in the newest era: over what it has handed on, from the store that
-- the eras before left
abbrev pub told_over : List Era → Era → ℕ → ℕ → Option Reply
told_over past era r row =
    reply_from (store (order_of past)) era.job (handed_log era.job.config era.events r) row

-- the command of the row, numbered over all eras, stands in the order, and this is the store's
-- reply there: that of one store, which began empty
pub record IsReplyOver (past : List Era) (era : Era) (row : ℕ) (reply : Reply) : Type 0 where
  pub place : ℕ
  pub command : Request
  pub submitted : slice_get era.job.commands row ≡ Some command
  pub ordered :
      slice_get (order_of (era ∷ past)) place ≡ Some (numbered_after (order_of past) command)
  pub replied : slice_get (replies (order_of (era ∷ past))) place ≡ Some reply

-- the command of the row among all that were submitted stands in the order, and this is the reply
-- there of one store, which began empty
pub record IsReplyTo (eras : List Era) (row : ℕ) (reply : Reply) : Type 0 where
  pub place : ℕ
  pub command : Request
  pub submitted : slice_get (submitted_over eras) row ≡ Some command
  pub ordered : slice_get (order_of eras) place ≡ Some command
  pub replied : slice_get (replies (order_of eras)) place ≡ Some reply

-- each command that was submitted in the era stands in its order, and once
pub record IsWhole (era : Era) : Type 0 where
  pub count : length (order_after era.job era.events) ≡ length era.job.commands
  pub all :
      (row : ℕ) (command : Request) → slice_get era.job.commands row ≡ Some command
      → (place : ℕ) × (slice_get (order_after era.job era.events) place ≡ Some command)

-- so it is in each of these
abbrev pub AreWhole : List Era → Type 0
AreWhole [] = Unit {0}
AreWhole (era ∷ eras) = IsWhole era × AreWhole eras

-- over all eras one store takes the commands one by one, each client's in order and once, and each
-- reply that is told is its reply
pub record IsSequentialOver (past : List Era) (era : Era) : Type 0 where
  pub sessions : IsInSession (order_of (era ∷ past))
  pub told :
      (r row : ℕ) (reply : Reply) → r < era.job.config.replicas
      → told_over past era r row ≡ Some reply → IsReplyOver past era row reply

-- a later moment: the newest era went on, and eras may have followed
abbrev pub GoesOver : List Era → Era → List Era → Era → Type 0
GoesOver past era later_past later =
    ((later_past ≡ past) × GoesOn era.job era.events later.job later.events)
    ⊎ ((more : List Era) × (ended : Era) × (later_past ≡ more ++ ended ∷ past)
    × GoesOn era.job era.events ended.job ended.events)

-- of three moments the last goes on from the first
abbrev pub ErasGoFurther : Type 0
ErasGoFurther =
    (past : List Era) (era : Era) (later_past : List Era) (later : Era) (last_past : List Era)
    (last : Era) → GoesOver past era later_past later → GoesOver later_past later last_past last
    → GoesOver past era last_past last

-- a command that stands here was submitted by this moment
abbrev pub IsSubmitted : List Era → Era → Request → Type 0
IsSubmitted past era command =
    ((place : ℕ) × (slice_get (order_of past) place ≡ Some command))
    ⊎ ((row : ℕ) × (own : Request) × (slice_get era.job.commands row ≡ Some own)
    × (command ≡ numbered_after (order_of past) own))

-- so it is at each of two moments; the order only goes on; and a command that came after the first
-- moment stands behind all that stood in the order then, so behind each whose reply was told
pub record IsLinearOver (past : List Era) (era : Era) (later_past : List Era)
    (later : Era) : Type 0 where
  pub before : IsSequentialOver past era
  pub now : IsSequentialOver later_past later
  pub goes_on : IsPrefixOf (order_of (era ∷ past)) (order_of (later ∷ later_past))
  pub in_time :
      (place : ℕ) (command : Request)
      → slice_get (order_of (later ∷ later_past)) place ≡ Some command
      → (IsSubmitted past era command → ⊥) → length (order_of (era ∷ past)) ≤ place

-- over all eras each engine is linear
abbrev pub ErasAreLinear : Type 0
ErasAreLinear =
    (past : List Era) (era : Era) (later_past : List Era) (later : Era) → AreEras (era ∷ past)
    → AreEras (later ∷ later_past) → GoesOver past era later_past later
    → IsLinearOver past era later_past later
