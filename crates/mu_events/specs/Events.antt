-- event line: the event that a line `BY VERB = ANSWER` spells.
use Rattle.std.specs.Prelude.{ℕ, Bool, false, true, List, [], ◌∷◌, codes, None, Some, if◌then◌else◌}
use Rattle.std.specs.declared.option.Option.{Option}
use Rattle.std.specs.Option.{option_and_then, option_map}
use Rattle.std.specs.Str.{bytes_eq}
use Rattle.mu_events.specs.Table.{Parts, Row, limit_of, put_in, row_named}
use Rattle.mu_events.specs.declared.table.Field.{Field}
use Rattle.mu_model.specs.Packing.{fields, target_kind, target_place, verb_in}
use Rattle.mu_model.specs.declared.event.Answer.{Answer}
use Rattle.mu_model.specs.declared.event.Event.{Event}
use Rattle.mu_model.specs.declared.event.Fence.{Fence}
use Rattle.mu_model.specs.declared.event.Target.{Target}
use Rattle.mu_model.specs.declared.event.Target.TheVariants as target
use Rattle.mu_model.specs.declared.event.Verb.{Verb}
use Rattle.mu_text.specs.Numbers.{below, of_8, of_16, of_32, of_64, wide_number_of}

-- a value made of several, if all are there
abbrev pub of_two :
    {A : Type 0} {B : Type 0} {C : Type 0} → (A → B → C) → Option A → Option B → Option C
of_two make (Some a) (Some b) = Some (make a b)
of_two make _ _ = None

abbrev pub of_three :
    {A : Type 0} {B : Type 0} {C : Type 0} {D : Type 0} → (A → B → C → D) → Option A → Option B
    → Option C → Option D
of_three make (Some a) (Some b) (Some c) = Some (make a b c)
of_three make _ _ _ = None

abbrev pub of_four :
    {A : Type 0} {B : Type 0} {C : Type 0} {D : Type 0} {E : Type 0} → (A → B → C → D → E)
    → Option A → Option B → Option C → Option D → Option E
of_four make (Some a) (Some b) (Some c) (Some d) = Some (make a b c d)
of_four make _ _ _ _ = None

-- what the words say that a writer is about to write: `min`, or `place S`
abbrev pub target_of : List (List ℕ) → Option Target
target_of (word ∷ []) = if bytes_eq word (codes "min") then Some target.Min else None
target_of (word ∷ place ∷ []) =
    if bytes_eq word (codes "place") then option_map target.Place (of_16 place) else None
target_of _ = None

-- the parts of a verb with a field read from a word
abbrev pub with_word : Field → List ℕ → Parts → Option Parts
with_word field word parts =
    option_map (put_in field parts) (below (limit_of field) (wide_number_of word))

-- the parts with a target
abbrev pub with_target : Parts → Target → Parts
with_target (f, own) target =
    (fields f.number f.small (target_place target) (target_kind target), own)

-- the parts with these fields read from these words, if they are as many
abbrev pub read_fields : List Field → List (List ℕ) → Parts → Option Parts
read_fields [] [] parts = Some parts
read_fields [] (word ∷ words) parts = None
read_fields (Field.Target ∷ order) words parts =
    option_map (with_target parts) (target_of words)
read_fields (field ∷ order) [] parts = None
read_fields (field ∷ order) (word ∷ words) parts =
    option_and_then (read_fields order words) (with_word field word parts)

-- the verb of this row that these words behind its name spell
abbrev pub verb_as : Option Row → List (List ℕ) → Option Verb
verb_as None words = None
verb_as (Some row) words =
    option_map (λ parts. verb_in parts.0 parts.1)
    (read_fields row.order words (fields row.number 0 0 0, 0))

-- the verb that these words spell, if they spell one
abbrev pub verb_of : List (List ℕ) → Option Verb
verb_of [] = None
verb_of (name ∷ words) = verb_as (row_named name) words

-- the replica that a fence lets write: a number, or `none`
abbrev pub owner_of : List ℕ → Option (Option ℕ)
owner_of word = if bytes_eq word (codes "none") then Some None else option_map Some (of_8 word)

-- whether a fence is closing
abbrev pub state_of : List ℕ → Option Bool
state_of word =
    if bytes_eq word (codes "open") then Some false
    else if bytes_eq word (codes "closing") then Some true
    else None

-- what a fence names: `none`, or what a writer is about to write
abbrev pub named_of : List (List ℕ) → Option Target
named_of (word ∷ []) =
    if bytes_eq word (codes "none") then Some target.None else target_of (word ∷ [])
named_of words = target_of words

-- a fence: the owner, the grant, the state and what it names
abbrev pub fence_of : List (List ℕ) → Option Fence
fence_of (owner ∷ grant ∷ state ∷ named) =
    of_four
    (λ owner grant closing named. record
    { owner = owner; grant = grant; closing = closing; target = named })
    (owner_of owner) (of_32 grant) (state_of state) (named_of named)
fence_of _ = None

-- an answer of one word
abbrev pub answer_alone : List ℕ → Option Answer
answer_alone word =
    if bytes_eq word (codes "done") then Some Answer.Done
    else if bytes_eq word (codes "missed") then Some Answer.Missed
    else if bytes_eq word (codes "entered") then Some Answer.Entered
    else if bytes_eq word (codes "empty") then Some Answer.Empty
    else if bytes_eq word (codes "past") then Some Answer.Past
    else option_map Answer.Number (of_64 word)

-- an entry: its proposal number and its payload number
abbrev pub entry_of : List (List ℕ) → Option Answer
entry_of (number ∷ value ∷ []) = of_two Answer.Entry (of_32 number) (of_16 value)
entry_of _ = None

-- an answer of several words: an entry, or a fence
abbrev pub answer_of_many : List ℕ → List (List ℕ) → Option Answer
answer_of_many name words =
    if bytes_eq name (codes "entry") then entry_of words
    else if bytes_eq name (codes "fence") then option_map Answer.Seen (fence_of words)
    else if bytes_eq name (codes "lost") then option_map Answer.Lost (fence_of words)
    else None

-- the answer that these words spell, if they spell one
abbrev pub answer_of : List (List ℕ) → Option Answer
answer_of [] = None
answer_of (word ∷ []) = answer_alone word
answer_of (word ∷ next ∷ words) = answer_of_many word (next ∷ words)

-- the words before and after the first `=`
abbrev pub sides : List (List ℕ) → Option (List (List ℕ) × List (List ℕ))
sides [] = None
sides (word ∷ words) =
    if bytes_eq word (codes "=") then Some ([], words)
    else option_map (λ parts. (word ∷ parts.0, parts.1)) (sides words)

-- the event that these words before and after a `=` spell, by one of this number of replicas
abbrev pub event_between : ℕ → Option (List (List ℕ) × List (List ℕ)) → Option Event
event_between replicas (Some (by ∷ verb, answer)) =
    of_three (λ by verb answer. record { by = by; verb = verb; answer = answer })
    (below replicas (wide_number_of by)) (verb_of verb) (answer_of answer)
event_between replicas _ = None

-- the event that the words of a line spell, if they spell one
abbrev pub event_of : ℕ → List (List ℕ) → Option Event
event_of replicas words = event_between replicas (sides words)
