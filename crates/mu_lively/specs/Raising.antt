-- raises: after a commit each member's FUO is raised in turn, with steps left at each place.
use Rattle.std.specs.Prelude.{List, None, ℕ, ◌≡◌}
use Rattle.mu_model.specs.declared.config.Config.{Config}
use Rattle.mu_model.specs.declared.event.Event.{Event}
use Rattle.mu_pace.specs.Countdowns.{AreRaisedBelow}
use Rattle.mu_pace.specs.Counters.{steps_left}
use Rattle.mu_pace.specs.Members.{members_from}
use Rattle.mu_pace.specs.Watches.{raising}
use Rattle.mu_lead.specs.declared.place.Place.{Place}

-- no commit waits for a FUO to be raised
abbrev pub IsRaisedEverywhere : Config → ℕ → List Event → Type 0
IsRaisedEverywhere c r mine = (q : ℕ) → steps_left (raising c r q) mine ≡ None

-- what holds of raised FUOs at a place
abbrev pub RaisesAt : Config → ℕ → List Event → Place → Type 0
RaisesAt c r mine (Place.Raise p) = AreRaisedBelow c r p (members_from c r p mine) mine
RaisesAt c r mine place = IsRaisedEverywhere c r mine
