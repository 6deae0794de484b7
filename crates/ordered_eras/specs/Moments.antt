-- at a moment (eras): what was submitted to an engine without an end, over all its eras, and how far
-- its order is; and what each replica does.
use Rattle.std.specs.Prelude.{List, None, Some, if◌then◌else◌, ℕ, ◌==◌, ◌∷◌, ◌≡◌}
use Rattle.std.specs.declared.option.Option.{Option}
use Rattle.std.specs.List.{slice_get}
use Rattle.kv_store.specs.Sessions.{IsInSession}
use Rattle.mu_engine.specs.declared.hold.Hold.{Hold}
use Rattle.mu_eras.specs.Eras.{Era, order_of, submitted_over}
use Rattle.mu_eras.specs.Lasting.{HoldsEras}
use Rattle.mu_eras.specs.Standing.{era_of}
use Rattle.mu_eras.specs.declared.succession.Succession.{Succession}
use Rattle.ordered_store.specs.Moments.{Moment}
use Rattle.ordered_store.specs.declared.replica.ReplicaState.{ReplicaState}

-- for some eras that ended, the moment is that of all eras; and each client's commands stand in the
-- order once, by their numbers
pub record IsAt (e : Succession) (moment : Moment) : Type 0 where
  pub past : List Era
  pub holds : HoldsEras past e
  pub submitted : moment.submitted ≡ submitted_over (era_of e.present ∷ past)
  pub order : moment.order ≡ order_of (era_of e.present ∷ past)
  pub sessions : IsInSession moment.order

-- what a replica does that is held so
abbrev pub state_by : Option Hold → ReplicaState
state_by None = ReplicaState.Stopped
state_by (Some hold) =
    if hold.stopped then ReplicaState.Stopped
    else (if hold.rounds == 0 then ReplicaState.Running else ReplicaState.Paused)

abbrev pub state_of : Succession → ℕ → ReplicaState
state_of e r = state_by (slice_get e.present.engine.holds r)
