-- so far: how a replica has ended so far: how its journal ends, or that it has no end yet.
use Rattle.std.specs.Prelude.{Bool, List, None, Some, false, true, ℕ}
use Rattle.std.specs.declared.option.Option.{Option}
use Rattle.mu_model.specs.declared.config.Config.{Config}
use Rattle.mu_model.specs.declared.event.Event.{Event}
use Rattle.mu_model.specs.declared.script.End.{End}
use Rattle.mu_model.specs.declared.script.Script.{Script}
use Rattle.mu_model.specs.Ends.{EndsBy}
use Rattle.mu_outcome.specs.declared.account.EndSoFar.{EndSoFar}

-- the journal ends in this way, or it has no end yet
abbrev pub IsSoFar : Config → Script → ℕ → List Event → EndSoFar → Type 0
IsSoFar c script r mine EndSoFar.Running = (end : End) → EndsBy c script r mine end → ⊥
IsSoFar c script r mine EndSoFar.Stopped = EndsBy c script r mine End.Stopped
IsSoFar c script r mine EndSoFar.Budget = EndsBy c script r mine End.Budget
IsSoFar c script r mine (EndSoFar.Outrun p i) = EndsBy c script r mine (End.Outrun p i)
IsSoFar c script r mine EndSoFar.Finished =
    (heads : List ℕ) × EndsBy c script r mine (End.Finished heads)

-- the first that holds of stopped, budget, outrun and finished, if one does
abbrev pub first_end : Bool → Bool → Option (ℕ × ℕ) → Bool → EndSoFar
first_end true spent look finished = EndSoFar.Stopped
first_end false true look finished = EndSoFar.Budget
first_end false false (Some look) finished = EndSoFar.Outrun look.0 look.1
first_end false false None true = EndSoFar.Finished
first_end false false None false = EndSoFar.Running
