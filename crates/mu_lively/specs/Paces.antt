-- has paces: at a place of the leader each count has the room that it needs there.
use Rattle.std.specs.Prelude.{List, ℕ}
use Rattle.mu_model.specs.declared.config.Config.{Config}
use Rattle.mu_model.specs.declared.event.Event.{Event}
use Rattle.mu_lead.specs.declared.place.Place.{Place}
use Rattle.mu_lively.specs.Causes.{CausesAt}
use Rattle.mu_lively.specs.Elections.{ElectsAt}
use Rattle.mu_lively.specs.Confirmations.{ConfirmsAt}
use Rattle.mu_lively.specs.Evidence.{ExplainsAt}
use Rattle.mu_lively.specs.Raising.{RaisesAt}
use Rattle.mu_lively.specs.Rooms.{RoomsAt}
use Rattle.mu_lively.specs.Welcomes.{JoinsAt}

-- what holds of all counts at a place
pub record CountsAt (c : Config) (r : ℕ) (mine : List Event) (written : List ℕ)
    (place : Place) : Type 0 where
  pub rooms : RoomsAt c r mine written place
  pub evidence : ExplainsAt c r mine place
  pub raises : RaisesAt c r mine place
  pub confirms : ConfirmsAt c r mine place
  pub joins : JoinsAt c r mine place

-- at the place, with this many words of each row written, each count has room, an ask has its
-- cause, and regions are asked in time
pub record PacesAt (c : Config) (r : ℕ) (mine : List Event) (written : List ℕ)
    (place : Place) : Type 0 where
  pub counts : CountsAt c r mine written place
  pub causes : CausesAt c r mine place
  pub elects : ElectsAt c r mine place
