-- A leader whose counts have the room of its place is in time.
use Rattle.std.proofs.Common.{◌≡◌, ℕ, inl, inr, Bool, true, false, List, [], refl}
use Rattle.std.proofs.lemmas.Bool.{cases_eq}
use Rattle.mu_model.specs.declared.config.Config.{Config}
use Rattle.mu_model.specs.declared.event.Event.{Event}
use Rattle.mu_model.specs.Contents.{IsConfig}
use Rattle.mu_model.specs.Steps.{has_min}
use Rattle.mu_pace.specs.Placed.{AreInTime}
use Rattle.mu_pace.specs.Weights.{Stage}
use Rattle.mu_pace.proofs.Away.{away_is_in_time}
use Rattle.mu_pace.proofs.Placed.{places_lead}
use Rattle.mu_lead.specs.declared.place.Place.{Place}
use Rattle.mu_lively.specs.Rooms.{IsLed, IsReading, IsWaiting, RoomsAt, IsOut, sizes_of, stage_of}
use Rattle.mu_lively.proofs.RoomsQuiet.{config_is_sized}

led_in_time : (c : Config) (r : ℕ) (mine : List Event) (stage : Stage) → IsConfig c → IsLed c r mine stage → AreInTime c r mine
led_in_time c r mine stage is at = places_lead.in_time c r (sizes_of c r mine) stage mine (config_is_sized c r mine is) at.placed

waiting_in_time : (c : Config) (r : ℕ) (mine : List Event) → IsWaiting c r mine → AreInTime c r mine
waiting_in_time c r mine at = away_is_in_time.in_time c r mine (away_is_in_time.fresh_is_away c r mine at.fresh)

reading_in_time : (c : Config) (r p : ℕ) (mine : List Event) (written : List ℕ) → IsConfig c → IsReading c r mine written p → AreInTime c r mine
reading_in_time c r p mine written is at = go (has_min r mine) refl
  where
    go : (t : Bool) → has_min r mine ≡ t → AreInTime c r mine
    go true read = led_in_time c r mine (Stage.ReadMin p) is (at.goes_on read)
    go false unread = away_is_in_time.in_time c r mine (away_is_in_time.fresh_is_away c r mine (at.waits unread))

pub place_in_time : (c : Config) (r : ℕ) (mine : List Event) (written : List ℕ) (place : Place) → IsConfig c → RoomsAt c r mine written place → AreInTime c r mine
place_in_time c r mine written (Place.Ask p) is at = elim (cases_eq p 0) [
  | inl first ↦ away_is_in_time.in_time c r mine (at.0 first).away
  | inr other ↦ waiting_in_time c r mine (at.1 other)
]
place_in_time c r mine written (Place.Confirm round p) is at = waiting_in_time c r mine at
place_in_time c r mine written (Place.ReadMin p) is at = reading_in_time c r p mine written is at
place_in_time c r mine written (Place.EnterMin p) is at = led_in_time c r mine Stage.EnterMin is at.led
place_in_time c r mine written (Place.PutMin p) is at = led_in_time c r mine Stage.PutMin is at.led
place_in_time c r mine written (Place.Evidence p) is at = away_is_in_time.in_time c r mine at.away
place_in_time c r mine written Place.Outrun is at = away_is_in_time.in_time c r mine at
place_in_time c r mine written place is at = led_in_time c r mine (stage_of c r mine written place) is at

-- before any event nothing is counted
pub rooms_start : (c : Config) (r : ℕ) → IsOut c r []
rooms_start c r = record { left = inl refl; away = away_is_in_time.fresh_is_away c r [] (away_is_in_time.start c r) }
