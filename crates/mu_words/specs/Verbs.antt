-- name, move, answer of a verb: the word on which a step is made, what the step does to that word,
-- and the answer that is read off it.
use Rattle.std.specs.Prelude.{Bool, bit_or, false, if◌then◌else◌, max, nat_lt, true, ℕ, ◌%◌, ◌&&◌, ◌*◌, ◌+◌, ◌/◌, ◌<◌, ◌==◌, ◌≡◌}
use Rattle.mu_model.specs.declared.event.Answer.{Answer}
use Rattle.mu_model.specs.declared.event.Target.{Target}
use Rattle.mu_model.specs.declared.event.Verb.{Verb}
use Rattle.mu_words.specs.declared.layout.Name.{Name}
use Rattle.mu_words.specs.declared.verbs.Move.{Move}
use Rattle.mu_words.specs.Standing.{fields}
use Rattle.mu_words.specs.Words.{TargetFits, fence_in, target_code}

-- the word that the target names at p; for none, which is never looked at, the minimum
abbrev pub target_name : ℕ → Target → Name
target_name p Target.None = Name.Min p
target_name p Target.Min = Name.Min p
target_name p (Target.Place s) = Name.Slot p s

-- the word on which r makes a step, if its last `Close` found the target
abbrev pub name_at : ℕ → ℕ → Target → Verb → Name
name_at ring r target (Verb.Ask p) = Name.Ask p r
name_at ring r target (Verb.Fence p) = Name.Fence p
name_at ring r target (Verb.Min p) = Name.Min p
name_at ring r target (Verb.Enter p t) = Name.Fence p
name_at ring r target (Verb.PutMin p b) = Name.Min p
name_at ring r target (Verb.Look p i) = Name.Slot p (i % ring)
name_at ring r target (Verb.PutSlot p i b v) = Name.Slot p (i % ring)
name_at ring r target (Verb.Fuo p) = Name.Fuo p
name_at ring r target (Verb.RaiseFuo p u) = Name.Fuo p
name_at ring r target (Verb.Head q) = Name.Head q
name_at ring r target (Verb.ReadBeat q) = Name.Beat q
name_at ring r target (Verb.WriteRow j k x) = Name.Row r j k
name_at ring r target (Verb.ReadRow v k) = Name.Row (v / 4096) (v % 4096) k
name_at ring r target (Verb.RaiseHead h) = Name.Head r
name_at ring r target Verb.Beat = Name.Beat r
name_at ring r target (Verb.ReadAsk w) = Name.Ask r w
name_at ring r target Verb.Close = Name.Fence r
name_at ring r target Verb.LookTarget = target_name r target
name_at ring r target Verb.Drain = target_name r target
name_at ring r target (Verb.Grant w) = Name.Fence r

-- the word by the same stamp with another content
abbrev pub with_content : ℕ → ℕ → ℕ
with_content w x = w / 140737488355328 * 140737488355328 + x

-- a fence word with another target
abbrev pub with_target : ℕ → Target → ℕ
with_target w t = w / 2048 * 2048 + target_code t

-- the fence word that a grant leaves, whatever it finds: made from the grant that the closed fence
-- had
abbrev pub granted : ℕ → ℕ → ℕ
granted grant q = (grant + 1) * 32768 + q * 2048

-- what the step does to its word in a ring, if the last `Close` found this grant and an exchange
-- expects the word x
abbrev pub move_of : ℕ → ℕ → Verb → ℕ → Move
move_of ring grant (Verb.Ask p) x = Move.Add
move_of ring grant (Verb.Enter p t) x = Move.Exchange x (with_target x t)
move_of ring grant (Verb.PutMin p b) x = Move.Exchange x (with_content x b)
move_of ring grant (Verb.PutSlot p i b v) x = Move.Exchange x (with_content x (fields ring i b v))
move_of ring grant (Verb.RaiseFuo p u) x = Move.Raise u
move_of ring grant (Verb.WriteRow j k y) x = Move.Store y
move_of ring grant (Verb.RaiseHead h) x = Move.Raise h
move_of ring grant Verb.Beat x = Move.Add
move_of ring grant Verb.Close x = Move.SetBits 16384
move_of ring grant Verb.Drain x = Move.Exchange x (x + 140737488355328)
move_of ring grant (Verb.Grant q) x = Move.Swap (granted grant q)
move_of ring grant _ x = Move.Load

-- what a slot word shows of position i
abbrev pub slot_answer : ℕ → ℕ → ℕ → Answer
slot_answer ring i w =
    if nat_lt (i / ring) (w / 274877906944 % 512)
    then Answer.Past
    else if (w / 274877906944 % 512 == i / ring) && nat_lt 0 (w / 32768 % 8388608)
    then Answer.Entry (w / 32768 % 8388608) (w % 32768)
    else Answer.Empty

-- the answer of a step that expects the word x, if it is an exchange, and finds w
abbrev pub answer_from : ℕ → Verb → ℕ → ℕ → Answer
answer_from ring (Verb.Fence p) x w = Answer.Seen (fence_in w)
answer_from ring (Verb.Min p) x w = Answer.Number (w % 8388608)
answer_from ring (Verb.Enter p t) x w = if x == w then Answer.Entered else Answer.Lost (fence_in w)
answer_from ring (Verb.PutMin p b) x w = if x == w then Answer.Done else Answer.Missed
answer_from ring (Verb.Look p i) x w = slot_answer ring i w
answer_from ring (Verb.PutSlot p i b v) x w = if x == w then Answer.Done else Answer.Missed
answer_from ring (Verb.Fuo p) x w = Answer.Number w
answer_from ring (Verb.Head q) x w = Answer.Number w
answer_from ring (Verb.ReadBeat q) x w = Answer.Number w
answer_from ring (Verb.ReadRow v k) x w = Answer.Number w
answer_from ring (Verb.ReadAsk q) x w = Answer.Number w
answer_from ring Verb.Close x w = Answer.Seen (fence_in w)
answer_from ring _ x w = Answer.Done

-- the fields of the verb are in the ranges of the words
abbrev pub VerbFits : ℕ → Verb → Type 0
VerbFits ring (Verb.Enter p t) = TargetFits t
VerbFits ring (Verb.PutMin p b) = b < 8388608
VerbFits ring (Verb.PutSlot p i b v) = (i / ring < 512) × (b < 8388608) × (v < 32768)
VerbFits ring (Verb.Grant w) = w < 7
VerbFits ring _ = Unit {0}

-- the word that the move finds leaves room for what it adds
abbrev pub HasRoom : Move → ℕ → Type 0
HasRoom Move.Add w = w < 18446744073709551615
HasRoom _ w = Unit {0}

-- the word that the step finds leaves room for what it adds: no count and no stamp runs over
abbrev pub WordFits : Verb → ℕ → Type 0
WordFits Verb.Drain w = w / 140737488355328 < 131071
WordFits v w = HasRoom (move_of 1 0 v 0) w

-- the move is a load
abbrev pub loads : Move → Bool
loads Move.Load = true
loads _ = false

-- the move is an exchange
abbrev pub exchanges : Move → Bool
exchanges (Move.Exchange old new) = true
exchanges _ = false

-- the step is a load
abbrev pub is_load : Verb → Bool
is_load v = loads (move_of 1 0 v 0)

-- the step is an exchange
abbrev pub is_exchange : Verb → Bool
is_exchange v = exchanges (move_of 1 0 v 0)

-- the word that a move makes of this one
abbrev pub made_of : Move → ℕ → ℕ
made_of Move.Load w = w
made_of (Move.Store new) w = new
made_of (Move.Raise least) w = max least w
made_of Move.Add w = w + 1
made_of (Move.SetBits bits) w = bit_or w bits
made_of (Move.Exchange old new) w = if old == w then new else w
made_of (Move.Swap new) w = new

-- the word that the step leaves, which expects the word x, if it is an exchange, and finds w
abbrev pub word_after : ℕ → Verb → ℕ → ℕ → ℕ
word_after ring v x w = made_of (move_of ring (w / 32768 % 131072) v x) w

-- the word that an exchange puts in place, of any other move x
abbrev pub put_by : Move → ℕ → ℕ
put_by (Move.Exchange old new) x = new
put_by _ x = x

-- the word that an exchange leaves if it takes: made from the word that it expects
abbrev pub exchanged : ℕ → Verb → ℕ → ℕ
exchanged ring v x = put_by (move_of ring 0 v x) x

-- the second move is the first; if it is an exchange, what it puts in place is so at least if the
-- word that it expects fits
abbrev pub IsLike : (ℕ → Type 0) → Move → Move → Type 0
IsLike fits (Move.Exchange old new) move =
    (made : ℕ) × (move ≡ Move.Exchange old made) × (fits old → made ≡ new)
IsLike fits this move = move ≡ this

-- the move is that of the verb
abbrev pub IsMove : ℕ → ℕ → Verb → ℕ → Move → Type 0
IsMove ring grant v x move = IsLike (WordFits v) (move_of ring grant v x) move
