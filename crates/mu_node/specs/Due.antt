-- due of a turn: the step that is due in a turn, of a plain and of an eager node.
use Rattle.std.specs.Prelude.{Bool, List, None, Some, false, if◌then◌else◌, length, true, ℕ, ◌&&◌, ◌==◌, ◌||◌, ◌≡◌, ◌⊎◌}
use Rattle.std.specs.declared.option.Option.{Option}
use Rattle.mu_model.specs.declared.config.Config.{Config}
use Rattle.mu_model.specs.declared.event.Event.{Event}
use Rattle.mu_model.specs.declared.event.Verb.{Verb}
use Rattle.mu_model.specs.Again.{asks_again}
use Rattle.mu_model.specs.Allowed.{Allowed}
use Rattle.mu_model.specs.Knowledge.{known}
use Rattle.mu_model.specs.Scores.{leader}
use Rattle.mu_model.specs.Steps.{is_named}
use Rattle.mu_model.specs.Stretches.{is_odd}
use Rattle.mu_follow.specs.CatchingUp.{catch_up_due, or_else}
use Rattle.mu_lead.specs.declared.lead.Lead.{Lead}
use Rattle.mu_lead.specs.Ahead.{IsAhead, ahead_at, ahead_verb}
use Rattle.mu_lead.specs.Beside.{is_beside, leads_at, writes_row}
use Rattle.mu_lead.specs.Journal.{due_after, number_due, place_after, tables_at}
use Rattle.mu_lead.specs.Standing.{HasHeeded, verb_at, verb_of}
use Rattle.mu_node.specs.declared.zeal.Zeal.{Zeal}

-- the step that is made: a beat if nothing is due
abbrev pub verb_or_beat : Option Verb → Verb
verb_or_beat None = Verb.Beat
verb_or_beat (Some verb) = verb

-- r may make the verb, and it is not of the leader
pub record MayBeside (c : Config) (r : ℕ) (mine : List Event) (lead : Lead)
    (verb : Verb) : Type 0 where
  pub allowed : Allowed c r mine verb
  pub beside : is_beside (leads_at lead.place) verb ≡ true

-- the verb that the leader has due, in a turn of its own: of its place if the scores name r
abbrev pub lead_due : Config → ℕ → List Event → Lead → Option Verb
lead_due c r mine lead = if leader c r mine == r then verb_of lead (known c r mine) else None

-- the same by the journal, if the scores name r
abbrev pub listed_due : Config → ℕ → List Event → Option Verb
listed_due c r mine =
    verb_at c (number_due r mine) (known c r mine) (tables_at c r mine).up
    (tables_at c r mine).written (place_after c r mine)

-- what is due in a turn of the leader in which the leader has nothing due: nothing for a plain
-- node; for an eager one what it reads on with, unless it is named, or led before that turn
abbrev pub idle_due : Zeal → Config → ℕ → List Event → Option Verb
idle_due Zeal.Plain c r mine = None
idle_due Zeal.Eager c r mine =
    if leads_at (place_after c r mine) || is_named c r mine then None else catch_up_due c r mine

-- what an eager node writes ahead in a background turn in which nothing is due, by the journal
abbrev pub write_due : Zeal → Config → ℕ → List Event → Option Verb
write_due Zeal.Plain c r mine = None
write_due Zeal.Eager c r mine =
    ahead_at c r (known c r mine) (tables_at c r mine).written (place_after c r mine)

-- the same by what its leader holds
abbrev pub held_write_due : Zeal → Config → ℕ → List Event → Lead → Option Verb
held_write_due Zeal.Plain c r mine lead = None
held_write_due Zeal.Eager c r mine lead =
    ahead_at lead.config lead.id (known c r mine) lead.written.items lead.place

-- the verb of a background turn in which this is due in the cycle
abbrev pub or_ahead : Zeal → Config → ℕ → List Event → Option Verb → Verb
or_ahead zeal c r mine due = verb_or_beat (or_else due (write_due zeal c r mine))

-- the node may ask again
abbrev pub is_eager : Zeal → Bool
is_eager Zeal.Plain = false
is_eager Zeal.Eager = true

-- an eager node that is named asks again out of turn, if a region has gone astray
abbrev pub asks_out_of_turn : Zeal → Config → ℕ → List Event → Bool
asks_out_of_turn zeal c r mine = is_eager zeal && (is_named c r mine && asks_again c r mine)

-- what is due in a turn of the leader, by the journal only
abbrev pub turn_due : Zeal → Config → ℕ → List Event → Option Verb
turn_due zeal c r mine =
    if asks_out_of_turn zeal c r mine then Some (Verb.Ask 0)
    else or_else (due_after c r mine) (idle_due zeal c r mine)

-- r is named, a region has gone astray, and the verb is the first ask
pub record AsksOutOfTurn (c : Config) (r : ℕ) (mine : List Event) (verb : Verb) : Type 0 where
  pub named : is_named c r mine ≡ true
  pub asks : asks_again c r mine ≡ true
  pub first : verb ≡ Verb.Ask 0

-- r isn't named and didn't lead before, and the verb is what it reads on with
pub record CatchesUp (c : Config) (r : ℕ) (mine : List Event) (verb : Verb) : Type 0 where
  pub unled : leads_at (place_after c r mine) ≡ false
  pub unnamed : is_named c r mine ≡ false
  pub due : catch_up_due c r mine ≡ Some verb

-- in a turn of the leader it has nothing due, and the verb is a beat, or r catches up
abbrev pub IsIdle : Config → ℕ → List Event → Lead → Verb → Type 0
IsIdle c r mine lead verb =
    is_odd (length mine) ≡ true
    → (lead_due c r mine lead ≡ None) × ((verb ≡ Verb.Beat) ⊎ CatchesUp c r mine verb)

-- the row that the verb writes a word of
abbrev pub written_row : Verb → Option ℕ
written_row (Verb.WriteRow j k x) = Some j
written_row verb = None

-- a word that is written is the next one of a row that the leader writes ahead
abbrev pub WritesAhead : Lead → Verb → Type 0
WritesAhead lead verb =
    writes_row verb ≡ true → (row : ℕ) × ((verb ≡ ahead_verb lead row) × IsAhead lead row)

-- the leader's verb is what it has due, and it heeded the scores; any other is not of its listing,
-- and a word is written ahead
abbrev pub FitsLead : Config → ℕ → List Event → Lead → Bool → Option Verb → Type 0
FitsLead c r mine lead true due = HasHeeded mine lead × (due ≡ lead_due c r mine lead)
FitsLead c r mine lead false due =
    (is_beside (leads_at lead.place) (verb_or_beat due) ≡ true)
    × WritesAhead lead (verb_or_beat due)

-- r isn't named, and the verb is what it reads on with
pub record ReadsOn (c : Config) (r : ℕ) (mine : List Event) (verb : Verb) : Type 0 where
  pub unnamed : is_named c r mine ≡ false
  pub due : catch_up_due c r mine ≡ Some verb
