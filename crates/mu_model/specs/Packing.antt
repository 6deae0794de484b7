-- packed event: the two words in which a journal keeps an event, and the event that two words show.
--
-- From the lowest bit the first word has the number of the verb (5 bits), that of the answer (4),
-- the replica (8), and of the verb's numbers one of 8 bits and two of 16. The second word is that
-- of the verb, if it has a number that is longer, else that of the answer. A fence there has the
-- grant (32), the kind (2) and the place (16) of its target, 1 if it is closing, and the owner (9).
use Rattle.std.specs.Prelude.{None, Some, if◌then◌else◌, nat_lt, unwrap_or, ℕ, ◌%◌, ◌*◌, ◌+◌, ◌-◌, ◌/◌, ◌==◌, ⊤}
use Rattle.std.specs.declared.option.Option.{Option}
use Rattle.mu_model.specs.declared.event.Answer.{Answer}
use Rattle.mu_model.specs.declared.event.Event.{Event}
use Rattle.mu_model.specs.declared.event.Fence.{Fence}
use Rattle.mu_model.specs.declared.event.Target.{Target}
use Rattle.mu_model.specs.declared.event.Verb.{Verb}
use Rattle.mu_model.specs.declared.packing.VerbFields.{VerbFields}
use Rattle.mu_model.specs.declared.packing.EventWords.{EventWords}

-- which kind of target it is
abbrev pub target_kind : Target → ℕ
target_kind Target.None = 0
target_kind Target.Min = 1
target_kind (Target.Place s) = 2

-- the place that a target names, if it names one
abbrev pub target_place : Target → ℕ
target_place (Target.Place s) = s
target_place _ = 0

-- the target of this kind and place
abbrev pub target_in : ℕ → ℕ → Target
target_in kind place =
    if kind == 0 then Target.None else if kind == 1 then Target.Min else Target.Place place

-- these fields of a verb
abbrev pub fields : ℕ → ℕ → ℕ → ℕ → VerbFields
fields number small first second =
    record { number = number; small = small; first = first; second = second }

-- the number of a verb, and its numbers that the first word has
abbrev pub fields_of : Verb → VerbFields
fields_of (Verb.Ask p) = fields 0 p 0 0
fields_of (Verb.Fence p) = fields 1 p 0 0
fields_of (Verb.Min p) = fields 2 p 0 0
fields_of (Verb.Enter p t) = fields 3 p (target_place t) (target_kind t)
fields_of (Verb.PutMin p b) = fields 4 p 0 0
fields_of (Verb.Look p i) = fields 5 p i 0
fields_of (Verb.PutSlot p i b v) = fields 6 p i v
fields_of (Verb.Fuo p) = fields 7 p 0 0
fields_of (Verb.RaiseFuo p u) = fields 8 p u 0
fields_of (Verb.Head q) = fields 9 q 0 0
fields_of (Verb.ReadBeat q) = fields 10 q 0 0
fields_of (Verb.WriteRow j k x) = fields 11 k j 0
fields_of (Verb.ReadRow v k) = fields 12 k v 0
fields_of (Verb.RaiseHead h) = fields 13 0 h 0
fields_of Verb.Beat = fields 14 0 0 0
fields_of (Verb.ReadAsk w) = fields 15 w 0 0
fields_of Verb.Close = fields 16 0 0 0
fields_of Verb.LookTarget = fields 17 0 0 0
fields_of Verb.Drain = fields 18 0 0 0
fields_of (Verb.Grant w) = fields 19 w 0 0

-- the number of a verb that only the second word has room for
abbrev pub own_word : Verb → Option ℕ
own_word (Verb.PutMin p b) = Some b
own_word (Verb.PutSlot p i b v) = Some b
own_word (Verb.WriteRow j k x) = Some x
own_word _ = None

-- the verb of these fields and this second word
abbrev pub verb_in : VerbFields → ℕ → Verb
verb_in f word =
    if f.number == 0 then Verb.Ask f.small
    else if f.number == 1 then Verb.Fence f.small
    else if f.number == 2 then Verb.Min f.small
    else if f.number == 3 then Verb.Enter f.small (target_in f.second f.first)
    else if f.number == 4 then Verb.PutMin f.small (word % 4294967296)
    else if f.number == 5 then Verb.Look f.small f.first
    else if f.number == 6 then Verb.PutSlot f.small f.first (word % 4294967296) f.second
    else if f.number == 7 then Verb.Fuo f.small
    else if f.number == 8 then Verb.RaiseFuo f.small f.first
    else if f.number == 9 then Verb.Head f.small
    else if f.number == 10 then Verb.ReadBeat f.small
    else if f.number == 11 then Verb.WriteRow f.first f.small word
    else if f.number == 12 then Verb.ReadRow f.first f.small
    else if f.number == 13 then Verb.RaiseHead f.first
    else if f.number == 14 then Verb.Beat
    else if f.number == 15 then Verb.ReadAsk f.small
    else if f.number == 16 then Verb.Close
    else if f.number == 17 then Verb.LookTarget
    else if f.number == 18 then Verb.Drain
    else Verb.Grant f.small

-- 0 if nobody may write, and w + 256 if w may
abbrev pub owner_word : Option ℕ → ℕ
owner_word None = 0
owner_word (Some w) = w + 256

-- who may write by such a number
abbrev pub owner_in : ℕ → Option ℕ
owner_in word = if nat_lt word 256 then None else Some (word - 256)

-- the bit of a closing fence at its place
abbrev pub closing_word : Fence → ℕ
closing_word f = if f.closing then 1125899906842624 else 0

-- a fence as a word
abbrev pub fence_word : Fence → ℕ
fence_word f =
    f.grant + target_kind f.target * 4294967296 + target_place f.target * 17179869184
    + closing_word f + owner_word f.owner * 2251799813685248

-- the fence of a word
abbrev pub fence_in : ℕ → Fence
fence_in word =
    record {
      grant = word % 4294967296;
      target = target_in (word / 4294967296 % 4) (word / 17179869184 % 65536);
      owner = owner_in (word / 2251799813685248 % 512);
      closing =
          (word / 1125899906842624 % 2 == 1);
    }

-- the number of an answer
abbrev pub answer_number : Answer → ℕ
answer_number Answer.Done = 0
answer_number Answer.Missed = 1
answer_number Answer.Entered = 2
answer_number (Answer.Lost f) = 3
answer_number (Answer.Seen f) = 4
answer_number (Answer.Number n) = 5
answer_number Answer.Empty = 6
answer_number (Answer.Entry b v) = 7
answer_number Answer.Past = 8

-- what an answer carries, as a word
abbrev pub answer_word : Answer → ℕ
answer_word (Answer.Lost f) = fence_word f
answer_word (Answer.Seen f) = fence_word f
answer_word (Answer.Number n) = n
answer_word (Answer.Entry b v) = b + v * 4294967296
answer_word _ = 0

-- the answer of this number and this second word
abbrev pub answer_in : ℕ → ℕ → Answer
answer_in number word =
    if number == 0 then Answer.Done
    else if number == 1 then Answer.Missed
    else if number == 2 then Answer.Entered
    else if number == 3 then Answer.Lost (fence_in word)
    else if number == 4 then Answer.Seen (fence_in word)
    else if number == 5 then Answer.Number word
    else if number == 6 then Answer.Empty
    else if number == 7 then Answer.Entry (word % 4294967296) (word / 4294967296 % 65536)
    else Answer.Past

-- the first word of these fields of a verb, of the answer's number and of the replica
abbrev pub first_word : VerbFields → ℕ → ℕ → ℕ
first_word f answer by =
    f.number + answer * 32 + by * 512 + f.small * 131072 + f.first * 33554432
    + f.second * 2199023255552

-- the fields of a verb in a first word
abbrev pub fields_in : ℕ → VerbFields
fields_in word =
    fields (word % 32) (word / 131072 % 256) (word / 33554432 % 65536)
    (word / 2199023255552 % 65536)

-- the two words of an event
abbrev pub packed_of : Event → EventWords
packed_of e =
    record {
      first = first_word (fields_of e.verb) (answer_number e.answer) e.by;
      second = unwrap_or (own_word e.verb) (answer_word e.answer);
    }

-- the event of two words
abbrev pub unpacked_of : EventWords → Event
unpacked_of words =
    record {
      by = words.first / 512 % 256;
      verb = verb_in (fields_in words.first) words.second;
      answer = answer_in (words.first / 32 % 16) words.second;
    }

-- an answer that carries nothing
abbrev pub IsBare : Answer → Type 0
IsBare (Answer.Lost f) = ⊥
IsBare (Answer.Seen f) = ⊥
IsBare (Answer.Number n) = ⊥
IsBare (Answer.Entry b v) = ⊥
IsBare _ = ⊤

-- if the verb takes the second word, the answer needs none
abbrev pub LeavesRoom : Option ℕ → Answer → Type 0
LeavesRoom None answer = ⊤
LeavesRoom (Some word) answer = IsBare answer

-- an event that two words have room for
abbrev pub FitsJournal : Event → Type 0
FitsJournal e = LeavesRoom (own_word e.verb) e.answer
