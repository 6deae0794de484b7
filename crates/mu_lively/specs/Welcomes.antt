-- joins: the steps that are left, at each place of a leader, to the put at a late follower that
-- grants, while no other waits: it joins within four.
use Rattle.std.specs.Prelude.{List, None, ℕ, ◌≡◌, ◌≢◌}
use Rattle.mu_model.specs.declared.config.Config.{Config}
use Rattle.mu_model.specs.declared.event.Event.{Event}
use Rattle.mu_pace.specs.Counters.{HasRoom, IsInTime, steps_left}
use Rattle.mu_pace.specs.Watches.{joining}
use Rattle.mu_lead.specs.declared.place.Place.{Place}

-- no late follower waits to join
abbrev pub NoneWaits : Config → ℕ → List Event → Type 0
NoneWaits c r mine = (q : ℕ) → steps_left (joining c r q) mine ≡ None

-- the late follower p, if it waits, has `left` steps left, and no other one waits
pub record WaitsToJoin (c : Config) (r : ℕ) (mine : List Event) (p left : ℕ) : Type 0 where
  pub here : HasRoom (joining c r p) left mine
  pub others : (q : ℕ) → q ≢ p → steps_left (joining c r q) mine ≡ None

-- when the next leadership begins, which ends all waiting, any that waits is in time; between the
-- asks none waits
pub record WaitsForAsk (c : Config) (r : ℕ) (mine : List Event) (p : ℕ) : Type 0 where
  pub first : p ≡ 0 → (q : ℕ) → IsInTime (joining c r q) mine
  pub later : p ≢ 0 → NoneWaits c r mine

-- what holds of late followers at a place
abbrev pub JoinsAt : Config → ℕ → List Event → Place → Type 0
JoinsAt c r mine (Place.Ask p) = WaitsForAsk c r mine p
JoinsAt c r mine (Place.LateMin p) = WaitsToJoin c r mine p 4
JoinsAt c r mine (Place.LateFuo p) = WaitsToJoin c r mine p 3
JoinsAt c r mine (Place.LateEnter p) = WaitsToJoin c r mine p 2
JoinsAt c r mine (Place.LatePut p) = WaitsToJoin c r mine p 1
JoinsAt c r mine place = NoneWaits c r mine
