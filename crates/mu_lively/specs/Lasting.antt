-- lasts: what holds at a place of the leader holds again at the next one, whatever the answer.
use Rattle.std.specs.Prelude.{List, true, ℕ, ◌<◌, ◌∷◌, ◌≡◌}
use Rattle.std.specs.declared.option.Option.{Option}
use Rattle.mu_model.specs.declared.config.Config.{Config}
use Rattle.mu_model.specs.declared.event.Answer.{Answer}
use Rattle.mu_model.specs.declared.event.Event.{Event}
use Rattle.mu_model.specs.Contents.{IsConfig}
use Rattle.mu_model.specs.Parts.{IsPossible}
use Rattle.mu_model.specs.Stretches.{is_replication}
use Rattle.mu_lead.specs.Lasting.{step_of}
use Rattle.mu_lead.specs.declared.place.Place.{Place}
use Rattle.mu_lead.specs.Listing.{Tables, next_place}
use Rattle.mu_lead.specs.Standing.{At}

-- what holds of a replica's events at a place lasts: each replication step of the listing leads to
-- a place at which it holds again
abbrev pub Lasts : (Config → ℕ → List Event → Place → Type 0) → Type 0
Lasts holds =
    (c : Config) (r b : ℕ) (mine : List Event) (up : List ℕ) (reach : List (Option ℕ))
    (written : List ℕ) (t : Tables) (place : Place) (a : Answer)
    → IsConfig c → r < c.replicas
    → At c r b mine up reach written place
    → IsPossible c r (step_of c r b mine up written place a ∷ mine)
    → is_replication mine (step_of c r b mine up written place a) ≡ true
    → holds c r mine place
    → holds c r (step_of c r b mine up written place a ∷ mine)
    (next_place c r b (step_of c r b mine up written place a ∷ mine) t a place)
