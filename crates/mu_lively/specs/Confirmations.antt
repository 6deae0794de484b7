-- confirms: the steps that are left, at each place of a leader, to the first minimum of a confirmed
-- leadership: it reads one in time.
use Rattle.std.specs.Prelude.{List, None, true, ℕ, ◌+◌, ◌-◌, ◌≡◌}
use Rattle.mu_model.specs.declared.config.Config.{Config}
use Rattle.mu_model.specs.declared.event.Event.{Event}
use Rattle.mu_model.specs.Steps.{has_min}
use Rattle.mu_pace.specs.Counters.{HasRoom, IsInTime, steps_left}
use Rattle.mu_pace.specs.Watches.{confirming}
use Rattle.mu_lead.specs.declared.place.Place.{Place}

-- no confirmed leadership waits for its first minimum
abbrev pub NoneIsAwaited : Config → ℕ → List Event → Type 0
NoneIsAwaited c r mine = steps_left (confirming c r) mine ≡ None

-- the leadership has read a minimum, so none is waited for
pub record HasRead (c : Config) (r : ℕ) (mine : List Event) : Type 0 where
  pub read : has_min r mine ≡ true
  pub none : NoneIsAwaited c r mine

-- what holds of the first minimum at a place: in a round of fences the steps from region p on are
-- left
abbrev pub ConfirmsAt : Config → ℕ → List Event → Place → Type 0
ConfirmsAt c r mine (Place.Ask p) = NoneIsAwaited c r mine
ConfirmsAt c r mine (Place.Confirm round p) = HasRoom (confirming c r) (c.replicas - p + 1) mine
ConfirmsAt c r mine (Place.ReadMin p) = IsInTime (confirming c r) mine
ConfirmsAt c r mine place = HasRead c r mine
