-- next note: the note of each place of the listing, by the events only.
use Rattle.std.specs.Prelude.{Bool, List, Some, get_or, if◌then◌else◌, is_some, min, nat_lt, ℕ, ◌&&◌, ◌+◌, ◌∷◌, ◌≡◌}
use Rattle.mu_model.specs.declared.config.Config.{Config}
use Rattle.mu_model.specs.declared.event.Answer.{Answer}
use Rattle.mu_model.specs.declared.event.Event.{Event}
use Rattle.mu_model.specs.declared.event.Verb.{Verb}
use Rattle.mu_model.specs.Contents.{holds_all}
use Rattle.mu_model.specs.Diligence.{is_confirmed}
use Rattle.mu_model.specs.Knowledge.{known}
use Rattle.mu_model.specs.Leaderships.{is_over, noted_grant}
use Rattle.mu_model.specs.Parts.{IsPossible}
use Rattle.mu_model.specs.Room.{reserve}
use Rattle.mu_lead.specs.declared.lead.Lead.{Lead}
use Rattle.mu_lead.specs.declared.note.AbortCause.{AbortCause}
use Rattle.mu_lead.specs.declared.note.Note.{Note}
use Rattle.mu_lead.specs.declared.place.Offer.{Offer}
use Rattle.mu_lead.specs.declared.place.Place.{Place}
use Rattle.mu_lead.specs.Lasting.{tables_of}
use Rattle.mu_lead.specs.Leading.{end_of}
use Rattle.mu_lead.specs.Listing.{Tables, is_missed, may_mark, number_told}
use Rattle.mu_lead.specs.Notes.{note_of_commit, note_of_head, note_of_min}
use Rattle.mu_lead.specs.Saying.{is_working, note_of_fence, note_of_join, note_of_learning, note_of_look, note_of_raise}
use Rattle.mu_lead.specs.Sets.{bits}
use Rattle.mu_lead.specs.Standing.{known_told, verb_of}

-- the note of an `Enter` of p, and of the fence that is read after a put at p that missed
abbrev pub note_of_enter : ℕ → Answer → Note
note_of_enter p (Answer.Lost f) = Note.Aborted (AbortCause.Lost p f)
note_of_enter p answer = Note.Working

abbrev pub note_of_evidence : ℕ → Answer → Note
note_of_evidence p (Answer.Seen f) = Note.Aborted (AbortCause.Lost p f)
note_of_evidence p answer = Note.Working

-- the note of the fence of p after a look that was past, by whether the leadership is then over
abbrev pub note_of_past : ℕ → Answer → Bool → Note
note_of_past p (Answer.Seen f) over = note_of_fence p f over
note_of_past p answer over = Note.Working

-- the note of a round of fences: the regions that name r, not closing
abbrev pub note_of_round : Config → ℕ → List Event → Note
note_of_round c r now =
    if is_confirmed c r now then Note.Confirmed (bits (λ p. is_some (noted_grant r p now)))
    else Note.NotConfirmed (bits (λ p. is_some (noted_grant r p now)))

-- the note of the fence of p in a round: nothing but after the last one
abbrev pub note_in_round : Config → ℕ → List Event → ℕ → Note
note_in_round c r now p =
    if nat_lt (p + 1) c.replicas then Note.Working else note_of_round c r now

-- the note of the put of the number at the late follower p, by whether p lacks entries
abbrev pub note_of_number : ℕ → Answer → Bool → Note
note_of_number p a lacks = if is_missed a then Note.Working else note_of_join p lacks

-- the note of a put of the offer, if it made the entry known
abbrev pub note_of_put : Config → ℕ → List Event → List Event → Offer → Note
note_of_put c r past now offer =
    if nat_lt (end_of c r past) (end_of c r now) then note_of_commit (end_of c r past) offer
    else Note.Working

-- the note of the answer a at the place: after these past events of r, with the answer's among
-- those of now, under the number b, and with the tables before the answer
abbrev pub next_note : Config → ℕ → ℕ → List Event → List Event → Tables → Answer → Place → Note
next_note c r b past now t a (Place.Confirm round p) = note_in_round c r now p
next_note c r b past now t a (Place.EnterMin p) = note_of_enter p a
next_note c r b past now t a (Place.Learn p) = note_of_learning (end_of c r now) a
next_note c r b past now t a (Place.EnterBehind p on) = note_of_enter p a
next_note c r b past now t a (Place.RaiseBehind p on) = note_of_raise p on
next_note c r b past now t a (Place.FenceBehind p on) = note_of_past p a (is_over r now)
next_note c r b past now t a (Place.LateMin p) = note_of_min p b (number_told a)
next_note c r b past now t a (Place.LateEnter p) = note_of_enter p a
next_note c r b past now t a (Place.LatePut p) =
    note_of_number p a (nat_lt (get_or t.up p 0) (end_of c r now))
next_note c r b past now t a (Place.ReadHead q candidate) =
    note_of_head q (min (number_told a) 65535) (end_of c r now)
    (nat_lt (end_of c r now + reserve c) (number_told a + c.ring))
    (may_mark c r now q (number_told a))
next_note c r b past now t a (Place.Look p i candidate best) = note_of_look i (end_of c r now) a
next_note c r b past now t a (Place.Enter p offer) = note_of_enter p a
next_note c r b past now t a (Place.Put p offer) = note_of_put c r past now offer
next_note c r b past now t a (Place.Evidence p) = note_of_evidence p a
next_note c r b past now t a place = Note.Working

-- by the answer to the verb that was due after these events the leader gives the note of its place,
-- before it tells that all is known
abbrev pub NotesNext : List Event → Lead → List ℕ → Answer → Note → Type 0
NotesNext mine old values answer note =
    (verb : Verb) → verb_of old (known old.config old.id mine) ≡ Some verb
    → IsPossible old.config old.id (record { by = old.id; verb = verb; answer = answer } ∷ mine)
    → values ≡ known_told old.config old.id mine old.id verb answer
    → note
    ≡ next_note old.config old.id old.number mine
    (record { by = old.id; verb = verb; answer = answer } ∷ mine)
    (tables_of old) answer old.place

-- `Idle` in place of `Working`, if all commands are known
abbrev pub or_idle : Bool → Note → Note
or_idle all note = if is_working note && all then Note.Idle else note

-- by the answer to the verb that was due it gives this note
abbrev pub NotedNext : List Event → Lead → List ℕ → Answer → Note → Type 0
NotedNext mine old values answer note =
    (verb : Verb) → verb_of old (known old.config old.id mine) ≡ Some verb
    → IsPossible old.config old.id (record { by = old.id; verb = verb; answer = answer } ∷ mine)
    → values ≡ known_told old.config old.id mine old.id verb answer
    → note
    ≡ or_idle
    (holds_all old.config
    (known old.config old.id (record { by = old.id; verb = verb; answer = answer } ∷ mine)))
    (next_note old.config old.id old.number mine
    (record { by = old.id; verb = verb; answer = answer } ∷ mine)
    (tables_of old) answer old.place)
