-- notes (of a turn): what a turn is noted as.
use Rattle.std.specs.Prelude.{Bool, List, None, Some, false, if◌then◌else◌, length, nat_lt, not, true, ℕ, ◌&&◌, ◌||◌, ◌∷◌, ◌≡◌}
use Rattle.std.specs.declared.option.Option.{Option}
use Rattle.mu_model.specs.declared.config.Config.{Config}
use Rattle.mu_model.specs.declared.event.Answer.{Answer}
use Rattle.mu_model.specs.declared.event.Event.{Event}
use Rattle.mu_model.specs.declared.event.Verb.{Verb}
use Rattle.mu_model.specs.Contents.{holds_all}
use Rattle.mu_model.specs.Histories.{or_zero, event_by}
use Rattle.mu_model.specs.Knowledge.{grown, known}
use Rattle.mu_model.specs.Leaderships.{proposal_number}
use Rattle.mu_model.specs.Parts.{IsPossible}
use Rattle.mu_model.specs.Scores.{leader}
use Rattle.mu_model.specs.Stretches.{is_odd}
use Rattle.mu_lead.specs.declared.lead.Lead.{Lead}
use Rattle.mu_lead.specs.declared.note.Note.{Note}
use Rattle.mu_lead.specs.declared.place.Place.{Place}
use Rattle.mu_lead.specs.Again.{TellsAstray}
use Rattle.mu_lead.specs.Going.{begins_at, going_after}
use Rattle.mu_lead.specs.Journal.{due_after, place_after, tables_at}
use Rattle.mu_lead.specs.Lasting.{tables_of}
use Rattle.mu_lead.specs.Listing.{Tables}
use Rattle.mu_lead.specs.Notes.{value_committed}
use Rattle.mu_lead.specs.Noting.{next_note, or_idle}
use Rattle.mu_lead.specs.Saying.{Says}
use Rattle.mu_lead.specs.Standing.{known_told}
use Rattle.mu_node.specs.declared.turn.Turn.{Turn}
use Rattle.mu_node.specs.declared.zeal.Zeal.{Zeal}
use Rattle.mu_node.specs.Due.{asks_out_of_turn, lead_due}
use Rattle.mu_node.specs.Journal.{FollowsTurn}

-- what the leader notes of the verb, answered so, at this place and with these tables
abbrev pub note_at : Config → ℕ → List Event → Tables → Place → Verb → Answer → Note
note_at c r mine t place verb answer =
    or_idle (holds_all c (known c r (event_by r verb answer ∷ mine)))
    (next_note c r (or_zero (proposal_number r mine)) mine (event_by r verb answer ∷ mine) t answer
    place)

-- what the leader notes when it is told which leader the scores of r name: it resigns if a
-- leadership is under way and a lower replica is named
abbrev pub heed_note : Config → ℕ → List Event → Lead → Note
heed_note c r mine lead =
    if lead.under_way && nat_lt (leader c r mine) r then Note.Resigned (leader c r mine)
    else Note.Working

-- what is noted before the step: in a turn of the leader what it notes then, else nothing
abbrev pub note_before : Config → ℕ → List Event → Lead → Note
note_before c r mine lead =
    if is_odd (length mine) then heed_note c r mine lead else Note.Working

-- what a turn is noted as when its step was taken, if the leader noted this before it: the same if
-- nothing was due or the step was not the leader's, else what its answer meant
pub record TellsTook (c : Config) (r : ℕ) (mine : List Event) (leads : Bool) (due : Option Verb)
    (heeded : Note) (answer : Answer) (note : Note) : Type 0 where
  pub idle : due ≡ None → note ≡ heeded
  pub beside : leads ≡ false → note ≡ heeded
  pub taken :
      (verb : Verb) → leads ≡ true → due ≡ Some verb → heeded ≡ Note.Working
      → IsPossible c r (event_by r verb answer ∷ mine)
      → known c r (event_by r verb answer ∷ mine)
      ≡ grown (known_told c r mine r verb answer) (value_committed note)

-- whether a leadership is still under way when the leader was told which leader the scores of r
-- name: one that was is given up if a lower replica is named
abbrev pub going_told : Config → ℕ → List Event → Lead → Bool
going_told c r mine lead = lead.under_way && not (nat_lt (leader c r mine) r)

-- the leader was told which leader the scores of r name: what else the notes rest on is as it was,
-- but it starts again if a lower replica is named
pub record HasTold (c : Config) (r : ℕ) (mine : List Event) (old new : Lead) : Type 0 where
  pub going : new.under_way ≡ going_told c r mine old
  pub place : nat_lt (leader c r mine) r ≡ false → new.place ≡ old.place
  pub up : new.up ≡ old.up
  pub tables : tables_of new ≡ tables_of old

-- what the step of a turn leaves of a leader, which had noted this before it: a verb of its own is
-- noted as what the leader's contract says of the part, the verb and the answer, and any other step
-- leaves it under way or not as it was
pub record SaysTook (c : Config) (r : ℕ) (mine : List Event) (leads : Bool) (due : Option Verb)
    (heeded : Note) (lead next : Lead) (answer : Answer) (note : Note) : Type 0 where
  pub idle : due ≡ None → next.under_way ≡ lead.under_way
  pub beside : leads ≡ false → next.under_way ≡ lead.under_way
  pub says :
      (verb : Verb) → leads ≡ true → due ≡ Some verb → heeded ≡ Note.Working
      → IsPossible c r (event_by r verb answer ∷ mine)
      → Says c r mine lead.up lead.place verb answer note
  pub noted :
      (verb : Verb) → leads ≡ true → due ≡ Some verb → heeded ≡ Note.Working
      → IsPossible c r (event_by r verb answer ∷ mine)
      → note ≡ note_at c r mine (tables_of lead) lead.place verb answer
  pub going :
      (verb : Verb) → leads ≡ true → due ≡ Some verb → heeded ≡ Note.Working
      → next.under_way ≡ going_after (begins_at lead.place || lead.under_way) note

-- the note of a turn that made this event: nothing in a background turn; in one of the leader what
-- it noted when it was told which leader the scores name if nothing was due, else what the answer
-- meant, which names an entry exactly if the put made it known, and each other cause exactly if the
-- leader's contract says so, at the place of the listing that the journal has; but if it asks again
-- out of turn, the region that has gone astray
pub record TellsNote (zeal : Zeal) (c : Config) (r : ℕ) (mine : List Event) (lead : Lead)
    (answer : Answer) (note : Note) : Type 0 where
  pub background : is_odd (length mine) ≡ false → note ≡ Note.Working
  pub idle :
      asks_out_of_turn zeal c r mine ≡ false → is_odd (length mine) ≡ true
      → due_after c r mine ≡ None → note ≡ heed_note c r mine lead
  pub taken :
      (verb : Verb) → asks_out_of_turn zeal c r mine ≡ false → is_odd (length mine) ≡ true
      → due_after c r mine ≡ Some verb
      → known c r (event_by r verb answer ∷ mine)
      ≡ grown (known_told c r mine r verb answer) (value_committed note)
  pub says :
      (verb : Verb) → asks_out_of_turn zeal c r mine ≡ false → is_odd (length mine) ≡ true
      → due_after c r mine ≡ Some verb
      → Says c r mine (tables_at c r mine).up (place_after c r mine) verb answer note
  pub noted :
      (verb : Verb) → asks_out_of_turn zeal c r mine ≡ false → is_odd (length mine) ≡ true
      → due_after c r mine ≡ Some verb
      → note ≡ note_at c r mine (tables_at c r mine) (place_after c r mine) verb answer
  pub again :
      asks_out_of_turn zeal c r mine ≡ true → is_odd (length mine) ≡ true
      → TellsAstray c r mine note

-- a step of r, plain or eager: its event comes to the part, it was made as it was due, and the note
-- tells of it
pub record HasMade (zeal : Zeal) (c : Config) (r : ℕ) (mine now : List Event) (lead : Lead)
    (note : Note) : Type 0 where
  pub verb : Verb
  pub answer : Answer
  pub part : now ≡ event_by r verb answer ∷ mine
  pub made : FollowsTurn zeal c r mine (event_by r verb answer)
  pub tells : TellsNote zeal c r mine lead answer note

-- the same of a turn that made a step
abbrev pub TellsTurn : Zeal → Config → ℕ → List Event → List Event → Lead → Turn → Type 0
TellsTurn zeal c r mine now lead (Turn.Took note) = HasMade zeal c r mine now lead note
TellsTurn zeal c r mine now lead (Turn.Ended end) = Unit {0}

-- whether a leadership is under way after a turn with this note: as before it in a background turn;
-- in one of the leader as it was told if nothing was due, else as the verb began it and the note
-- ends it
pub record MovesGoing (c : Config) (r : ℕ) (mine : List Event) (lead next : Lead)
    (note : Note) : Type 0 where
  pub background : is_odd (length mine) ≡ false → next.under_way ≡ lead.under_way
  pub idle :
      is_odd (length mine) ≡ true → lead_due c r mine lead ≡ None
      → next.under_way ≡ going_told c r mine lead
  pub taken :
      (verb : Verb) → is_odd (length mine) ≡ true → lead_due c r mine lead ≡ Some verb
      → next.under_way ≡ going_after (begins_at lead.place || lead.under_way) note

-- the same of a turn: if it made no step, as before it
abbrev pub MovesTurn : Config → ℕ → List Event → Lead → Lead → Turn → Type 0
MovesTurn c r mine lead next (Turn.Took note) = MovesGoing c r mine lead next note
MovesTurn c r mine lead next (Turn.Ended end) = next.under_way ≡ lead.under_way
