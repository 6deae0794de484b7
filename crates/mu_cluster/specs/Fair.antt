-- goes on fairly, has all if fair: in a stretch of a list that has the journals of an outcome as its
-- parts a majority goes on fairly, for a number of steps or until one has finished; then every command
-- is in the longest log, whatever came before and comes after.
use Rattle.std.specs.Prelude.{Bool, List, Some, [], false, length, true, ℕ, ◌++◌, ◌+◌, ◌<◌, ◌≡◌, ◌≤◌, ◌⊎◌}
use Rattle.std.specs.List.{slice_get}
use Rattle.mu_alive.specs.Enough.{HasLargeRing}
use Rattle.mu_alive.specs.Fair.{FindsBeats, KeepsUp}
use Rattle.mu_alive.specs.Last.{fetching_steps}
use Rattle.mu_alive.specs.Resuming.{resuming_steps}
use Rattle.mu_alive.specs.Settling.{HoldAlive}
use Rattle.mu_model.specs.declared.config.Config.{Config}
use Rattle.mu_model.specs.declared.event.Event.{Event}
use Rattle.mu_model.specs.declared.script.End.{End}
use Rattle.mu_model.specs.Contents.{holds_all}
use Rattle.mu_model.specs.Histories.{count_below, history, part}
use Rattle.mu_model.specs.Leaderships.{majority_of}
use Rattle.mu_model.specs.Legal.{IsLegal}
use Rattle.mu_model.specs.Parts.{HasParts}
use Rattle.mu_outcome.specs.declared.outcome.Outcome.{Outcome}
use Rattle.mu_outcome.specs.Completion.{HasAllCommands}
use Rattle.mu_outcome.specs.Outcomes.{journals_of, log_of}
use Rattle.mu_cluster.specs.Outliving.{was_stopped}

-- each read of the beats of s by another of these replicas finds new ones; or they hold it alive
-- anyway, once they have taken enough steps in the newer events
abbrev pub IsSeen : Config → (ℕ → Bool) → ℕ → List Event → List Event → Type 0
IsSeen c live s newer older = FindsBeats c live s newer ⊎ HoldAlive c live s newer older

-- in the newer events a majority goes on with s, the least of them: they see s, they keep up with it at
-- this ratio with this lag, and no other makes an event
pub record IsFairStretch (c : Config) (live : ℕ → Bool) (ratio lag s : ℕ)
    (newer older : List Event) : Type 0 where
  pub inside : s < c.replicas
  pub lives : live s ≡ true
  pub least : (r : ℕ) → r < s → live r ≡ false
  pub majority : majority_of c.replicas ≤ count_below c.replicas live
  pub quiet : (r : ℕ) → r < c.replicas → live r ≡ false → part r newer ≡ []
  pub seen : IsSeen c live s newer older
  pub keeps_up : KeepsUp c live ratio lag s newer

-- the steps of s in such a stretch until it has every command
abbrev pub steps_if_fair : Config → ℕ → ℕ → ℕ
steps_if_fair c ratio lag = resuming_steps c ratio lag + fetching_steps c

-- replica `by` has finished
pub record HasFinishedOne (o : Outcome) : Type 0 where
  pub by : ℕ
  pub inside : by < o.job.config.replicas
  pub heads : List ℕ
  pub ended : slice_get o.ends by ≡ Some (End.Finished heads)

-- after a stretch s makes no more events, or one has finished; no line stopped s, and from the
-- beginning of the stretch on its budget leaves it so many steps
pub record LastsToEnd (o : Outcome) (s steps : ℕ) (latest older : List Event) : Type 0 where
  pub going : was_stopped o s ≡ false
  pub lasts : (part s latest ≡ []) ⊎ HasFinishedOne o
  pub budget : length (part s older) + steps ≤ o.job.config.budget

-- a legal list has the journals as its parts; a stretch of it is fair, and s takes enough steps in
-- it, or has the budget for them and the stretch lasts to its end, with a ring that has a place for
-- each entry
pub record GoesOnFairly (o : Outcome) (s : ℕ) : Type 0 where
  pub events : List Event
  pub legal : IsLegal o.job.config events
  pub parts : HasParts o.job.config events (journals_of o)
  pub latest : List Event
  pub newer : List Event
  pub older : List Event
  pub is : history events ≡ latest ++ (newer ++ older)
  pub live : ℕ → Bool
  pub ratio : ℕ
  pub lag : ℕ
  pub fair : IsFairStretch o.job.config live ratio lag s newer older
  pub large : HasLargeRing o.job.config
  pub enough :
      (steps_if_fair o.job.config ratio lag ≤ length (part s newer))
      ⊎ LastsToEnd o s (steps_if_fair o.job.config ratio lag) latest older

-- replica `by` has every row in its log
pub record HasAllRows (o : Outcome) : Type 0 where
  pub by : ℕ
  pub inside : by < o.job.config.replicas
  pub holds : holds_all o.job.config (log_of o by) ≡ true

-- then one has every row
abbrev pub AppliesAllIfFair : Outcome → Type 0
AppliesAllIfFair o = (s : ℕ) → GoesOnFairly o s → HasAllRows o

-- so every command is in the longest log
abbrev pub HasAllIfFair : Outcome → Type 0
HasAllIfFair o = (s : ℕ) → GoesOnFairly o s → HasAllCommands o
