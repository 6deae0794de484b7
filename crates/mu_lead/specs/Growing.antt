-- works: a place of the listing but rest; what holds at it holds with more rows at the end too.
use Rattle.std.specs.Prelude.{Bool, List, false, true, ℕ}
use Rattle.std.specs.declared.option.Option.{Option}
use Rattle.mu_model.specs.declared.config.Config.{Config}
use Rattle.mu_model.specs.declared.config.Row.{Row}
use Rattle.mu_model.specs.declared.event.Event.{Event}
use Rattle.mu_model.specs.Contents.{IsConfig}
use Rattle.mu_model.specs.Parts.{IsPossible}
use Rattle.mu_model.specs.Growing.{with_more}
use Rattle.mu_lead.specs.declared.place.Place.{Place}
use Rattle.mu_lead.specs.Standing.{At}

-- the places but rest
abbrev pub Works : Place → Type 0
Works Place.Rest = ⊥
Works place = Unit {0}

-- the place is that of rest
abbrev pub rests : Place → Bool
rests Place.Rest = true
rests place = false

-- what holds there holds when rows are added
abbrev pub PlacesStay : Type 0
PlacesStay =
    (c : Config) (more : List Row) (r b : ℕ) (mine : List Event) (up : List ℕ)
    (reach : List (Option ℕ)) (written : List ℕ) (place : Place) → IsConfig c
    → IsConfig (with_more c more) → IsPossible c r mine → Works place
    → At c r b mine up reach written place
    → At (with_more c more) r b mine up reach written place
