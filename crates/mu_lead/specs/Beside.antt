-- beside (leader): what the other machines of the replica do while it leads, and while it doesn't.
use Rattle.std.specs.Prelude.{Bool, List, false, not, true, ℕ, ◌&&◌, ◌==◌, ◌∷◌, ◌≡◌}
use Rattle.mu_model.specs.declared.event.Answer.{Answer}
use Rattle.mu_model.specs.declared.event.Event.{Event}
use Rattle.mu_model.specs.declared.event.Verb.{Verb}
use Rattle.mu_model.specs.Parts.{IsPossible}
use Rattle.mu_lead.specs.declared.lead.Lead.{Lead}
use Rattle.mu_lead.specs.declared.place.Place.{Place}
use Rattle.mu_lead.specs.Leading.{end_of}
use Rattle.mu_lead.specs.Standing.{StandsFor}

-- the verb writes a word of a row
abbrev pub writes_row : Verb → Bool
writes_row (Verb.WriteRow j k x) = true
writes_row verb = false

-- a leadership was confirmed, and isn't over or given up
abbrev pub leads_at : Place → Bool
leads_at (Place.Ask p) = false
leads_at (Place.Confirm round p) = false
leads_at (Place.Evidence p) = false
leads_at _ = true

-- a verb that isn't of the listing: those of a host, of a replayer and of the scores; FUOs are read
-- and logs looked at only while the replica does not lead, and rows are written ahead only while it
-- does
abbrev pub is_beside : Bool → Verb → Bool
is_beside leading (Verb.Ask p) = false
is_beside leading (Verb.Fence p) = false
is_beside leading (Verb.Min p) = false
is_beside leading (Verb.Enter p t) = false
is_beside leading (Verb.PutMin p b) = false
is_beside leading (Verb.PutSlot p i b v) = false
is_beside leading (Verb.WriteRow j k x) = leading
is_beside leading (Verb.Fuo p) = not leading
is_beside leading (Verb.Look p i) = not leading
is_beside leading _ = true

-- a verb of another machine, alongside a leader that leads or not and knows this many entries:
-- while it leads, no log is looked at in the first unknown position
abbrev pub leaves_leader : Bool → ℕ → Verb → Bool
leaves_leader leading known (Verb.Fuo p) = true
leaves_leader leading known (Verb.Look p i) = not (leading && (i == known))
leaves_leader leading known (Verb.WriteRow j k x) = false
leaves_leader leading known verb = is_beside leading verb

-- what the other machines do keeps what the leader stands for
abbrev pub OthersKeep : Type 0
OthersKeep =
    (mine : List Event) (lead : Lead) (verb : Verb) (answer : Answer)
    → leaves_leader (leads_at lead.place) (end_of lead.config lead.id mine) verb ≡ true
    → IsPossible lead.config lead.id (record { by = lead.id; verb = verb; answer = answer } ∷ mine)
    → StandsFor mine lead
    → StandsFor (record { by = lead.id; verb = verb; answer = answer } ∷ mine) lead
