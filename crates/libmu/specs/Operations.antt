-- operation, state, hold: an access, where an engine stands and what holds a replica, as C sees them,
-- are those that are asked for or shown.
use Rattle.std.specs.Prelude.{◌≡◌}
use Rattle.mu_library.specs.declared.replicas.Asked.{Asked}
use Rattle.mu_library.specs.declared.states.EngineState.{EngineState}
use Rattle.mu_library.specs.declared.states.ReplicaHold.{ReplicaHold}
use Rattle.libmu.specs.declared.engines.Hold.{Hold}
use Rattle.libmu.specs.declared.Operation.{Operation}
use Rattle.libmu.specs.declared.engines.State.{State}

-- it has the numbers of what is asked for
pub record IsOperation (asked : Asked) (operation : Operation) : Type 0 where
  pub value : operation.value ≡ asked.value
  pub expected : operation.expected ≡ asked.expected
  pub kind : operation.kind ≡ asked.kind
  pub host : operation.host ≡ asked.host
  pub place : operation.place ≡ asked.place
  pub reserved : operation.reserved ≡ 0

-- so has a state those of what is shown
pub record IsState (shown : EngineState) (state : State) : Type 0 where
  pub commands : state.commands ≡ shown.commands
  pub first_row : state.first_row ≡ shown.first_row
  pub eras : state.eras ≡ shown.eras
  pub replicas : state.replicas ≡ shown.replicas
  pub leader : state.leader ≡ shown.leader
  pub free : state.free ≡ shown.free
  pub room : state.room ≡ shown.room

-- and a hold
pub record IsHold (shown : ReplicaHold) (hold : Hold) : Type 0 where
  pub stopped : hold.stopped ≡ shown.stopped
  pub rounds : hold.rounds ≡ shown.rounds
