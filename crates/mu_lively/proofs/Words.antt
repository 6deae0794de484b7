-- A word that is written ahead leaves the rooms of a leader.
use Rattle.std.proofs.Common.{◌≡◌, ℕ, ◌+◌, ◌-◌, List, refl, subst, sym}
use Rattle.mu_model.specs.declared.config.Config.{Config}
use Rattle.mu_model.specs.declared.event.Event.{Event}
use Rattle.mu_lead.specs.declared.place.Offer.{Offer}
use Rattle.mu_lead.specs.declared.place.Place.{Place}
use Rattle.mu_lively.specs.Rooms.{IsLed, RoomsAt, words_left}
use Rattle.mu_pace.specs.Weights.{Stage}

-- the rooms are the same with a table that has the same of the rows at hand
pub rooms_written : (c : Config) (r : ℕ) (mine : List Event) (written written' : List ℕ) (place : Place) → ((u last : ℕ) (offer : Offer) → place ≡ Place.Write u last offer → words_left written' u (last + 1 - u) ≡ words_left written u (last + 1 - u)) → RoomsAt c r mine written place
    → RoomsAt c r mine written' place
rooms_written c r mine written written' (Place.ReadMin p) same at = record { waits = at.waits; goes_on = at.goes_on }
rooms_written c r mine written written' (Place.Write u last offer) same at = subst (λ n. IsLed c r mine (Stage.Write n)) (sym (same u last offer refl)) at
rooms_written c r mine written written' place same at = at
