-- where (told, planned): a node's leader is where its journal has it, also right after it gave up.
use Rattle.std.specs.Prelude.{Bool, List, false, length, not, true, ℕ, ◌&&◌}
use Rattle.mu_model.specs.declared.config.Config.{Config}
use Rattle.mu_model.specs.declared.event.Event.{Event}
use Rattle.mu_model.specs.Steps.{is_named}
use Rattle.mu_model.specs.Stretches.{is_odd}
use Rattle.mu_lead.specs.declared.lead.Lead.{Lead}
use Rattle.mu_lead.specs.Journal.{HasLeft, IsWhere}

-- the leader was told that another replica is named, or that r is
abbrev pub IsWhereTold : Bool → Config → ℕ → List Event → Lead → Type 0
IsWhereTold true c r mine lead = HasLeft c r mine lead
IsWhereTold false c r mine lead = IsWhere c r mine lead

-- the leader was told which leader the scores name
abbrev pub IsWhereHeard : Config → ℕ → List Event → Lead → Type 0
IsWhereHeard c r mine lead = IsWhereTold (not (is_named c r mine)) c r mine lead

-- the same once the turn is planned: in one of the leader it was told which leader the scores name
abbrev pub IsWherePlanned : Config → ℕ → List Event → Lead → Type 0
IsWherePlanned c r mine lead =
    IsWhereTold (is_odd (length mine) && not (is_named c r mine)) c r mine lead
