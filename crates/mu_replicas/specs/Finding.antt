-- finds for, goes on: a search that went over the points of every verb goes on over those of one,
-- and a search that went over any points goes on over more.
use Rattle.std.specs.Prelude.{Bool, IsTrue, List, ℕ, ◌+◌, ◌++◌, ◌≤◌, ◌↔◌}
use Rattle.mu_model.specs.declared.config.Config.{Config}
use Rattle.mu_model.specs.declared.event.Event.{Event}
use Rattle.mu_model.specs.declared.event.Verb.{Verb}
use Rattle.mu_model.specs.declared.reason.Reason.{Reason}
use Rattle.mu_model.specs.Contents.{row_count}
use Rattle.mu_model.specs.Parts.{IsPossible}
use Rattle.mu_model.specs.Points.{AreMet, bounds, points}
use Rattle.mu_model.specs.Reasons.{Finds}
use Rattle.mu_model.specs.Room.{reserve}
use Rattle.mu_replicas.specs.declared.found.Found.{Found}
use Rattle.mu_replicas.specs.declared.replica.Replica.{Replica}
use Rattle.mu_replicas.specs.Stands.{StandsForReplica}

-- a search that went over the points of every verb has gone over those of this one
abbrev pub FindsFor : Config → Replica → Verb → Found → Found → Type 0
FindsFor c state verb before after =
    (r : ℕ) → (mine : List Event) → StandsForReplica c r mine state
    → Finds c r mine (bounds r mine) before.reason
    → Finds c r mine (points c r mine verb) after.reason

-- the same after events that are possible
abbrev pub FindsIfPossible : Config → Replica → Verb → Found → Found → Type 0
FindsIfPossible c state verb before after =
    (r : ℕ) → (mine : List Event) → IsPossible c r mine → StandsForReplica c r mine state
    → Finds c r mine (bounds r mine) before.reason
    → Finds c r mine (points c r mine verb) after.reason

-- a search that went over any points has gone over these too
abbrev pub GoesOn : Config → Replica → (ℕ → List Event → List Reason) → Found → Found → Type 0
GoesOn c state more before after =
    (r : ℕ) → (mine : List Event) → (reasons : List Reason) → StandsForReplica c r mine state
    → Finds c r mine reasons before.reason
    → Finds c r mine (reasons ++ more r mine) after.reason

-- the same if a fact is given
abbrev pub GoesOnIf :
    Type 0 → Config → Replica → (ℕ → List Event → List Reason) → Found → Found → Type 0
GoesOnIf given c state more before after =
    (r : ℕ) → (mine : List Event) → (reasons : List Reason) → given
    → StandsForReplica c r mine state → Finds c r mine reasons before.reason
    → Finds c r mine (reasons ++ more r mine) after.reason

-- position i can be in a log
abbrev pub IsPosition : Config → ℕ → Type 0
IsPosition c i = i ≤ row_count c + reserve c

-- it is told whether the verb meets its points, if it meets those of every verb
abbrev pub TellsIfMet : Config → Replica → Verb → Bool → Type 0
TellsIfMet c state verb answer =
    (r : ℕ) → (mine : List Event) → IsPossible c r mine → StandsForReplica c r mine state
    → AreMet c r mine (bounds r mine)
    → (IsTrue answer ↔ AreMet c r mine (points c r mine verb))
