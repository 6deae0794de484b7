-- asks again, are apart: if some region has gone astray a leader asks the first region out of turn,
-- from any place; it then keeps what a leader keeps after any first ask, and it had read the fence of
-- that region 16 times.
use Rattle.std.specs.Prelude.{List, [], if◌then◌else◌, is_some, true, ℕ, ◌&&◌, ◌+◌, ◌<◌, ◌∷◌, ◌≡◌, ◌≤◌}
use Rattle.std.specs.declared.option.Option.{Option}
use Rattle.mu_model.specs.declared.config.Config.{Config}
use Rattle.mu_model.specs.declared.event.Answer.{Answer}
use Rattle.mu_model.specs.declared.event.Event.{Event}
use Rattle.mu_model.specs.declared.event.Verb.{Verb}
use Rattle.mu_model.specs.Again.{asks_again}
use Rattle.mu_model.specs.Leaderships.{begins_leadership, fence_seen, proposal_number}
use Rattle.mu_model.specs.Steps.{is_named}
use Rattle.mu_model.specs.Stretches.{is_replication}
use Rattle.mu_pace.specs.Keeping.{HasCauseBy}
use Rattle.mu_lead.specs.declared.place.Place.{Place}
use Rattle.mu_lead.specs.Listing.{Tables, next_place}
use Rattle.mu_lively.specs.Paces.{PacesAt}
use Rattle.mu_lead.specs.Standing.{At}

-- the first ask of r, with this answer
abbrev pub first_ask : ℕ → Answer → Event
first_ask r answer = record { by = r; verb = Verb.Ask 0; answer = answer }

-- the place after the first ask, from these events
abbrev pub place_asked : Config → ℕ → ℕ → List Event → Tables → Answer → Place
place_asked c r b mine t answer =
    next_place c r b (first_ask r answer ∷ mine) t answer (Place.Ask 0)

-- a leader that asks again, at any place, keeps with the first ask what a leader keeps at the place
-- after it; and it has a cause to ask
pub record LeadersAskAgain : Type 0 where
  pub asked :
      (c : Config) (r b n : ℕ) (mine : List Event) (up : List ℕ) (reach : List (Option ℕ))
      (written words : List ℕ) (t : Tables) (place : Place) (answer : Answer)
      → 0 < c.replicas → is_replication mine (first_ask r answer) ≡ true
      → asks_again c r mine ≡ true → At c r b mine up reach written place
      → PacesAt c r mine written place
      → PacesAt c r (first_ask r answer ∷ mine) words (place_asked c r n mine t answer)
  pub caused :
      (c : Config) (r : ℕ) (mine : List Event) (answer : Answer)
      → is_named c r mine ≡ true → asks_again c r mine ≡ true
      → HasCauseBy true c r mine (first_ask r answer)

-- how many fences of p r saw in its leadership since that has a number
abbrev pub fences_numbered : ℕ → ℕ → List Event → ℕ
fences_numbered r p [] = 0
fences_numbered r p (e ∷ past) =
    if begins_leadership r e then 0
    else (if is_some (proposal_number r past) && is_some (fence_seen r p e.by e.verb e.answer)
    then fences_numbered r p past + 1 else fences_numbered r p past)

-- a leader that asks again has seen 16 fences of one region in the leadership that it leaves, since
-- that has a number: so at least 16 events lie between its ask and any first ask before it
abbrev pub AsksAreApart : Type 0
AsksAreApart =
    (c : Config) (r : ℕ) (mine : List Event) → asks_again c r mine ≡ true
    → (p : ℕ) × (p < c.replicas) × (16 ≤ fences_numbered r p mine)
