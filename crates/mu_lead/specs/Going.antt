-- going after: whether a leadership is under way after an answer, as the notes have it.
use Rattle.std.specs.Prelude.{Bool, false, ◌==◌}
use Rattle.mu_lead.specs.declared.note.Note.{Note}
use Rattle.mu_lead.specs.declared.place.Place.{Place}

-- the verb of the place begins a leadership
abbrev pub begins_at : Place → Bool
begins_at (Place.Ask p) = p == 0
begins_at place = false

-- a leadership that was under way, or not, still is, unless the note ends it
abbrev pub going_after : Bool → Note → Bool
going_after going (Note.Aborted cause) = false
going_after going note = going
