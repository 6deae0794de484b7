-- lines (of events): how an event is spelled as a line, and which events a line spells.
use Rattle.std.specs.Prelude.{ℕ, ◌<◌, Bool, false, true, List, [], ◌∷◌, ◌++◌, None, Some, codes, ⊤}
use Rattle.std.specs.declared.option.Option.{Option}
use Rattle.std.specs.Fmt.{decimal}
use Rattle.mu_events.specs.Table.{Parts, number_in, parts_of, row_of}
use Rattle.mu_events.specs.declared.table.Field.{Field}
use Rattle.mu_model.specs.Packing.{target_in}
use Rattle.mu_model.specs.declared.event.Answer.{Answer}
use Rattle.mu_model.specs.declared.event.Event.{Event}
use Rattle.mu_model.specs.declared.event.Fence.{Fence}
use Rattle.mu_model.specs.declared.event.Target.{Target}
use Rattle.mu_model.specs.declared.event.Target.TheVariants as target
use Rattle.mu_model.specs.declared.event.Verb.{Verb}
use Rattle.mu_model.specs.declared.event.Verb.TheVariants as verb
use Rattle.mu_model.specs.Ranges.{FitsEvent}

-- the words of what a fence names, or a writer is about to write
abbrev pub target_words : Target → List ℕ
target_words target.None = codes "none"
target_words target.Min = codes "min"
target_words (target.Place place) = codes "place " ++ decimal place

-- the word of the replica that a fence lets write
abbrev pub owner_words : Option ℕ → List ℕ
owner_words None = codes "none"
owner_words (Some owner) = decimal owner

-- the word of whether a fence is closing
abbrev pub state_words : Bool → List ℕ
state_words false = codes "open"
state_words true = codes "closing"

-- the words of a fence: the owner, the grant, the state and what it names
abbrev pub fence_words : Fence → List ℕ
fence_words fence =
    owner_words fence.owner ++ codes " " ++ decimal fence.grant ++ codes " "
    ++ state_words fence.closing ++ codes " " ++ target_words fence.target

-- the words of an answer
abbrev pub answer_words : Answer → List ℕ
answer_words Answer.Done = codes "done"
answer_words Answer.Missed = codes "missed"
answer_words Answer.Entered = codes "entered"
answer_words (Answer.Lost fence) = codes "lost " ++ fence_words fence
answer_words (Answer.Seen fence) = codes "fence " ++ fence_words fence
answer_words (Answer.Number number) = decimal number
answer_words Answer.Empty = codes "empty"
answer_words (Answer.Entry number value) =
    codes "entry " ++ decimal number ++ codes " " ++ decimal value
answer_words Answer.Past = codes "past"

-- a target as words
abbrev pub target_pieces : Target → List (List ℕ)
target_pieces target.None = codes "none" ∷ []
target_pieces target.Min = codes "min" ∷ []
target_pieces (target.Place place) = codes "place" ∷ decimal place ∷ []

-- the words of these fields
abbrev pub pieces_in : List Field → Parts → List (List ℕ)
pieces_in [] parts = []
pieces_in (Field.Target ∷ order) parts = target_pieces (target_in parts.0.second parts.0.first)
pieces_in (field ∷ order) parts = decimal (number_in field parts) ∷ pieces_in order parts

-- each of these words after a space
abbrev pub after_spaces : List (List ℕ) → List ℕ
after_spaces [] = []
after_spaces (word ∷ words) = codes " " ++ word ++ after_spaces words

-- the words of a step: the name of the verb, and its fields
abbrev pub verb_words : Verb → List ℕ
verb_words verb =
    (row_of verb).name ++ after_spaces (pieces_in (row_of verb).order (parts_of verb))

-- the line of an event: the replica, its step and the answer
abbrev pub event_line : Event → List ℕ
event_line event =
    decimal event.by ++ codes " " ++ verb_words event.verb ++ codes " = "
    ++ answer_words event.answer

-- a writer enters for a word, and no line spells one that enters for nothing
abbrev pub EntersForWord : Verb → Type 0
EntersForWord (verb.Enter p target.None) = ⊥
EntersForWord _ = ⊤

-- an event by one of this number of replicas, as a line spells it
pub record IsSpelled (replicas : ℕ) (event : Event) : Type 0 where
  pub known : event.by < replicas
  pub fits : FitsEvent event
  pub enters : EntersForWord event.verb
