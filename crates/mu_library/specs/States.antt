-- shows state, shows hold: where a live engine stands, and what holds a replica of it.
use Rattle.std.specs.Prelude.{Bool, List, None, Some, [], false, if◌then◌else◌, length, true, ℕ, ◌+◌, ◌<◌, ◌∷◌, ◌≡◌, ◌⊎◌}
use Rattle.std.specs.declared.option.Option.{Option}
use Rattle.std.specs.List.{slice_get}
use Rattle.mu_engine.specs.Live.{Live}
use Rattle.mu_engine.specs.declared.hold.Hold.{Hold}
use Rattle.mu_eras.specs.Eras.{Era, submitted_over}
use Rattle.mu_eras.specs.Lasting.{HoldsEras}
use Rattle.mu_eras.specs.Telling.{first_told}
use Rattle.mu_eras.specs.Turns.{count_free}
use Rattle.mu_eras.specs.declared.eras.Eras.{Eras}
use Rattle.mu_library.specs.Engines.{era_now, is_stopped, live_of}
use Rattle.mu_library.specs.declared.codes.TheConstants.{NO_REPLICA}
use Rattle.mu_library.specs.declared.states.EngineState.{EngineState}
use Rattle.mu_library.specs.declared.states.ReplicaHold.{ReplicaHold}
use Rattle.mu_library.specs.declared.states.TheConstants.{NOBODY}
use Rattle.mu_model.specs.Histories.{history, part}
use Rattle.mu_model.specs.Scores.{leader}

-- a replica that isn't stopped takes itself for the leader
pub record Leads (live : Live) (r : ℕ) : Type 0 where
  pub there : r < length live.holds
  pub runs : is_stopped (slice_get live.holds r) ≡ Some false
  pub own : leader live.job.config r (part r (history live.events)) ≡ r

-- the first of these, or none
abbrev pub IsFirstLeader : Live → ℕ → Type 0
IsFirstLeader live r =
    (Leads live r × ((s : ℕ) → s < r → Leads live s → ⊥))
    ⊎ ((r ≡ NOBODY) × ((s : ℕ) → Leads live s → ⊥))

-- nothing is shown
abbrev pub no_state : ℕ → EngineState
no_state status = record {
  status = status;
  replicas = 0;
  leader = 0;
  free = 0;
  room = 0;
  commands = 0;
  first_row = 0;
  eras = 0;
}

abbrev pub no_hold : ℕ → ReplicaHold
no_hold status = record { status = status; stopped = 0; rounds = 0 }

-- where the engine stands
pub record ShowsState (state : EngineState) (e : Eras) (status : ℕ) : Type 0 where
  pub done : status ≡ 0
  pub replicas : state.replicas ≡ length (live_of e).holds
  pub leader_is : IsFirstLeader (live_of e) state.leader
  pub free_are : state.free ≡ count_free (live_of e).holds
  pub room : state.room ≡ (live_of e).room
  pub commands :
      (past : List Era) → HoldsEras past e.succession
      → state.commands ≡ length (submitted_over (era_now e ∷ past))
  pub first_row :
      (past : List Era) → HoldsEras past e.succession → state.first_row ≡ first_told past
  pub eras : (past : List Era) → HoldsEras past e.succession → state.eras ≡ length past

-- 1 for true
abbrev pub number_of : Bool → ℕ
number_of true = 1
number_of false = 0

-- what holds the replica at this place, if there is one
abbrev pub IsHold : ReplicaHold → Option Hold → Type 0
IsHold shown None = shown ≡ no_hold NO_REPLICA
IsHold shown (Some hold) =
    (shown.status ≡ 0) × (shown.stopped ≡ number_of hold.stopped) × (shown.rounds ≡ hold.rounds)

abbrev pub HasState : ℕ → ReplicaHold → Live → Type 0
HasState replica shown live = IsHold shown (slice_get live.holds replica)

abbrev pub ShowsHold : ℕ → ReplicaHold → Eras → ℕ → Type 0
ShowsHold replica shown e status =
    (status ≡ shown.status) × HasState replica shown (live_of e)
