-- stands for (judge), takes if allowed, stays or takes: the history is legal, and the states of the
-- judge are those that it leads to; the judge took an event, or nothing changed since the event may
-- not follow; the same with what is wrong with it.
use Rattle.std.specs.Prelude.{Bool, List, ◌∷◌, ◌≡◌, None, Some, false, true}
use Rattle.std.specs.declared.option.Option.{Option}
use Rattle.mu_judge.specs.declared.judge.Judge.{Judge}
use Rattle.mu_model.specs.declared.config.Config.{Config}
use Rattle.mu_model.specs.declared.event.Event.{Event}
use Rattle.mu_model.specs.Legal.{IsLegalHistory, MayFollow}
use Rattle.mu_outcome.specs.Breaks.{IsFault}
use Rattle.mu_outcome.specs.declared.fault.Fault.{Fault}
use Rattle.mu_replicas.specs.Stands.{StandsForReplicas}
use Rattle.mu_regions.specs.Stands.{Stands}

-- the history is legal, and the states are those that it leads to
pub record StandsForJudge (c : Config) (past : List Event) (judge : Judge) : Type 0 where
  pub legal : IsLegalHistory c past
  pub regions : Stands c past judge.regions
  pub replicas : StandsForReplicas c past judge.replicas

-- the judge took the event, or nothing changed since it may not follow
abbrev pub TakesIfAllowed : Config → List Event → Event → Judge → Judge → Bool → Type 0
TakesIfAllowed c past e old new true = StandsForJudge c (e ∷ past) new
TakesIfAllowed c past e old new false = (new ≡ old) × ¬ MayFollow c past e

-- the judge took the event, or nothing changed since this is wrong with it
abbrev pub StaysOrTakes : Config → List Event → Event → Judge → Judge → Option Fault → Type 0
StaysOrTakes c past e old new None = StandsForJudge c (e ∷ past) new
StaysOrTakes c past e old new (Some fault) = (new ≡ old) × IsFault c past e fault
