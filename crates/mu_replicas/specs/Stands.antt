-- stands for, tells (replicas): the running state of a replica holds what its events make of it:
-- grants, leadership, heads with the scores, known log, rows, puts, filled logs and looks, and
-- tells it; and the same of every replica of a history.
use Rattle.std.specs.Prelude.{Bool, List, Some, length, not, ℕ, ◌&&◌, ◌<◌, ◌==◌, ◌≡◌}
use Rattle.std.specs.List.{slice_get}
use Rattle.mu_model.specs.declared.config.Config.{Config}
use Rattle.mu_model.specs.declared.event.Event.{Event}
use Rattle.mu_model.specs.Contents.{is_mark, marked}
use Rattle.mu_model.specs.Histories.{part}
use Rattle.mu_model.specs.Knowledge.{known}
use Rattle.mu_model.specs.Room.{is_mark_candidate}
use Rattle.mu_replicas.specs.declared.replica.Replica.{Replica}
use Rattle.mu_replicas.specs.declared.replicas.Replicas.{Replicas}
use Rattle.mu_grant.specs.Stands.{StandsFor}
use Rattle.mu_placing.specs.FilledLogs.{StandsForFilledLogs}
use Rattle.mu_knowledge.specs.HeldRows.{StandsForHeldRows}
use Rattle.mu_placing.specs.Heads.{StandsForHeads}
use Rattle.mu_knowledge.specs.KnownLog.{StandsForKnownLog}
use Rattle.mu_placing.specs.LandedPuts.{StandsForLandedPuts}
use Rattle.mu_leadership.specs.Leadership.{StandsForLeadership}
use Rattle.mu_placing.specs.Looks.{StandsForLooks}

-- the state of replica r stands for its events
pub record StandsForReplica (c : Config) (r : ℕ) (mine : List Event)
    (state : Replica) : Type 0 where
  pub replica : state.replica ≡ r
  pub steps : state.steps ≡ length mine
  pub leadership : StandsForLeadership r mine state.leadership
  pub grants : StandsFor c.replicas r mine state.grants
  pub heads : StandsForHeads c r mine state.heads
  pub known_log : StandsForKnownLog c r mine state.known_log
  pub held_rows : StandsForHeldRows c r mine state.held_rows
  pub landed_puts : StandsForLandedPuts c r mine state.landed_puts
  pub filled_logs : StandsForFilledLogs c r mine state.filled_logs
  pub looks : StandsForLooks c r mine state.looks

-- the states stand for a history: there is one for each replica, and it stands for its part
pub record StandsForReplicas (c : Config) (past : List Event) (states : Replicas) : Type 0 where
  pub count : length states.replicas.items ≡ c.replicas
  pub each :
      (r : ℕ) (state : Replica) → slice_get states.replicas.items r ≡ Some state
      → StandsForReplica c r (part r past) state

-- what a state tells: of the events of r that it stands for
abbrev pub Tells : {A : Type 0} → Config → Replica → (ℕ → List Event → A) → A → Type 0
Tells c state of answer =
    (r : ℕ) → (mine : List Event) → StandsForReplica c r mine state → answer ≡ of r mine

-- what it tells of the replica q
abbrev pub TellsOf : {A : Type 0} → Config → Replica → ℕ → (ℕ → List Event → A) → A → Type 0
TellsOf c state q of answer =
    (r : ℕ) → (mine : List Event) → q < c.replicas → StandsForReplica c r mine state
    → answer ≡ of r mine

-- v is the mark of q, which r may mark
abbrev pub may_mark : Config → ℕ → ℕ → ℕ → ℕ → List Event → Bool
may_mark c q v limit r mine =
    is_mark c q v
    && (not (q == r)
    && (not (marked c q (known c r mine)) && is_mark_candidate c r q limit mine))
