-- step of a place, follows: by the answer to the verb that was due the leader comes to the place that
-- follows in the listing.
use Rattle.std.specs.Prelude.{List, None, Some, ℕ, ◌∷◌, ◌≡◌}
use Rattle.std.specs.declared.option.Option.{Option}
use Rattle.mu_model.specs.declared.config.Config.{Config}
use Rattle.mu_model.specs.declared.event.Answer.{Answer}
use Rattle.mu_model.specs.declared.event.Event.{Event}
use Rattle.mu_model.specs.declared.event.Verb.{Verb}
use Rattle.mu_model.specs.Knowledge.{known}
use Rattle.mu_model.specs.Parts.{IsPossible}
use Rattle.mu_lead.specs.declared.lead.Lead.{Lead}
use Rattle.mu_lead.specs.declared.place.Place.{Place}
use Rattle.mu_lead.specs.Listing.{Tables, next_place}
use Rattle.mu_lead.specs.Standing.{known_told, verb_at, verb_of}

-- the verb, if there is one, else a beat
abbrev pub verb_or : Option Verb → Verb
verb_or None = Verb.Beat
verb_or (Some verb) = verb

-- the step of a place: its verb, answered so
abbrev pub step_of : Config → ℕ → ℕ → List Event → List ℕ → List ℕ → Place → Answer → Event
step_of c r b mine up written place a = record {
  by = r;
  verb = verb_or (verb_at c b (known c r mine) up written place);
  answer = a;
}

-- the leader's tables
abbrev pub tables_of : Lead → Tables
tables_of l = record { up = l.up; reach = l.reach; heads = l.heads; written = l.written.items }

-- the leader comes to the place that follows in the listing, with these events
abbrev pub GoesTo : Lead → List Event → Answer → Place → Lead → Type 0
GoesTo old now answer place new =
    new.place ≡ next_place old.config old.id old.number now (tables_of new) answer place

-- the same by the answer to the verb that was due, with these values known
abbrev pub Follows : List Event → Lead → List ℕ → Answer → Lead → Type 0
Follows mine old values answer new =
    (verb : Verb) → verb_of old (known old.config old.id mine) ≡ Some verb
    → IsPossible old.config old.id (record { by = old.id; verb = verb; answer = answer } ∷ mine)
    → values ≡ known_told old.config old.id mine old.id verb answer
    → GoesTo old (record { by = old.id; verb = verb; answer = answer } ∷ mine) answer old.place new
