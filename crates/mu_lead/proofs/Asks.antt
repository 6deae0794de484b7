-- The verbs of a leader that leads ask nothing.
use Rattle.std.proofs.Common.{◌≡◌, ℕ, Bool, true, false, List, None, Some, refl, sym, ◌∙◌, ap, true≢false}
use Rattle.std.specs.declared.option.Option.{Option}
use Rattle.mu_model.specs.declared.config.Config.{Config}
use Rattle.mu_model.specs.declared.event.Verb.{Verb}
use Rattle.mu_lead.specs.declared.place.Place.{Place}
use Rattle.mu_lead.specs.Beside.{leads_at}
use Rattle.mu_lead.specs.Standing.{verb_at}

-- its verbs ask nothing
abbrev pub is_ask : Verb → Bool
is_ask (Verb.Ask p) = true
is_ask verb = false

abbrev pub is_ask_due : Option Verb → Bool
is_ask_due None = false
is_ask_due (Some verb) = is_ask verb

asks_none : (c : Config) (b : ℕ) (values up written : List ℕ) (place : Place) → leads_at place ≡ true → is_ask_due (verb_at c b values up written place) ≡ false
asks_none c b values up written (Place.Ask p) leading = absurd (true≢false (sym leading))
asks_none c b values up written place leading = refl

pub verb_asks_none : (c : Config) (b : ℕ) (values up written : List ℕ) (place : Place) (verb : Verb) → leads_at place ≡ true → verb_at c b values up written place ≡ Some verb → is_ask verb ≡ false
verb_asks_none c b values up written place verb leading due = sym (ap is_ask_due due) ∙ asks_none c b values up written place leading
