-- stray: a stop of the script after which its replica goes on.
use Rattle.std.specs.Prelude.{List, None, Some, [], if◌then◌else◌, length, nat_lt, ℕ, ◌==◌, ◌∷◌}
use Rattle.std.specs.declared.option.Option.{Option}
use Rattle.mu_model.specs.declared.event.Event.{Event}
use Rattle.mu_model.specs.declared.script.Stop.{Stop}
use Rattle.mu_model.specs.Histories.{part}
use Rattle.mu_telling.specs.Shown.{given_below}

-- the first stop of r
abbrev pub stop_of : ℕ → List Stop → Option Stop
stop_of r [] = None
stop_of r (stop ∷ stops) = if stop.replica == r then Some stop else stop_of r stops

-- the stop, if there is one, and its replica has made more steps
abbrev pub stray : List Event → Option Stop → Option Stop
stray past None = None
stray past (Some stop) =
    if nat_lt stop.steps (length (part stop.replica past)) then Some stop else None

-- the stops of the first n replicas after which they go on
abbrev pub strays : ℕ → List Stop → List Event → List Stop
strays n stops past = given_below n (λ r. stray past (stop_of r stops))
