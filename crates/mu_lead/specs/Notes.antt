-- notes: what the notes of puts, minima and heads say.
use Rattle.std.specs.Prelude.{Bool, None, Some, if◌then◌else◌, min, nat_lt, ℕ}
use Rattle.std.specs.declared.option.Option.{Option}
use Rattle.mu_lead.specs.declared.note.AbortCause.{AbortCause}
use Rattle.mu_lead.specs.declared.note.Note.{Note}
use Rattle.mu_lead.specs.declared.place.Offer.{Offer}

-- the note of an entry that the put made known: a look had shown it, or none had
abbrev pub note_of_commit : ℕ → Offer → Note
note_of_commit i offer =
    if offer.adopted then Note.Adopted i offer.value else Note.Committed i offer.value

-- the note of a late follower's minimum, under the number b
abbrev pub note_of_min : ℕ → ℕ → ℕ → Note
note_of_min p b min = if nat_lt b min then Note.Aborted (AbortCause.Higher p min) else Note.Working

-- the note of a head of q, if it leaves room with the places that have to stay free, or if q may be
-- marked
abbrev pub note_of_head : ℕ → ℕ → ℕ → Bool → Bool → Note
note_of_head q head position room marks =
    if room then Note.Working else (if marks then Note.Working else Note.NoRoom q head position)

-- the value of the entry that the note says the put made known
abbrev pub value_committed : Note → Option ℕ
value_committed (Note.Committed i v) = Some v
value_committed (Note.Adopted i v) = Some v
value_committed note = None
