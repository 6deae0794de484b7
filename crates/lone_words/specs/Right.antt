-- may stand, may be told: which words a legal list may leave under a name, as far as the name, the
-- configuration and the word itself tell; and which of them a step may find.
use Rattle.std.specs.Prelude.{Bool, List, None, Some, false, nat_le, nat_lt, true, ℕ, ◌%◌, ◌&&◌, ◌*◌, ◌+◌, ◌-◌, ◌==◌, ◌||◌, ◌≡◌}
use Rattle.std.specs.declared.option.Option.{Option}
use Rattle.mu_model.specs.declared.config.Config.{Config}
use Rattle.mu_model.specs.declared.event.Event.{Event}
use Rattle.mu_model.specs.declared.event.Target.{Target}
use Rattle.mu_model.specs.declared.event.Verb.{Verb}
use Rattle.mu_model.specs.Contents.{IsConfig, config_word, is_batch, is_mark, row_count}
use Rattle.mu_model.specs.Legal.{IsLegalHistory}
use Rattle.mu_model.specs.Room.{reserve}
use Rattle.mu_words.specs.declared.layout.Name.{Name}
use Rattle.mu_words.specs.declared.words.SlotWord.{SlotWord}
use Rattle.mu_words.specs.Finding.{name_of}
use Rattle.mu_words.specs.Standing.{standing_word}
use Rattle.mu_words.specs.Words.{fence_in, slot_in}
use Rattle.lone_words.specs.Memory.{IsFound, Own}

-- what a minimum or a slot has below its stamp
abbrev pub below_stamp : ℕ → ℕ
below_stamp w = w % 140737488355328

-- the proposal number is of a replica that there is
abbrev pub is_number : Config → ℕ → Bool
is_number c b = nat_lt (b % 8) c.replicas

-- the owner is none, or a replica that there is
abbrev pub is_owner : Config → Option ℕ → Bool
is_owner c None = true
is_owner c (Some q) = nat_lt q c.replicas

-- the target is none, the minimum, or a place of the ring
abbrev pub is_target : Config → Target → Bool
is_target c Target.None = true
is_target c Target.Min = true
is_target c (Target.Place s) = nat_lt s c.ring

-- the payload number stands for a batch, or for the mark of a replica
abbrev pub is_payload : Config → ℕ → Bool
is_payload c v = is_batch c v || is_mark c (v % 4096 - 4080) v

-- a fence: its owner and its target are such, and nothing stands above its grant
abbrev pub is_fence : Config → ℕ → Bool
is_fence c w =
    nat_lt w 4294967296 && (is_owner c (fence_in w).owner && is_target c (fence_in w).target)

-- a minimum: a number of a replica below the stamp, or 0
abbrev pub is_min : Config → ℕ → Bool
is_min c w = nat_lt (below_stamp w) 8388608 && is_number c (below_stamp w)

-- an entry at place s of the ring: its position is one that there is, its number is of a replica,
-- and its payload number stands for an entry
abbrev pub is_entry : Config → ℕ → SlotWord → Bool
is_entry c s x =
    nat_lt (x.lap * c.ring + s) (row_count c + reserve c + 1)
    && (is_number c x.proposal && is_payload c x.payload)

-- a slot: nothing below the stamp, or an entry
abbrev pub is_slot : Config → ℕ → ℕ → Bool
is_slot c s w = (below_stamp w == 0) || is_entry c s (slot_in w)

-- a FUO or a head: at most one above all positions
abbrev pub is_offset : Config → ℕ → Bool
is_offset c w = nat_le w (row_count c + reserve c + 1)

-- a word of a row: not written yet, or as the configuration has it
abbrev pub is_row_word : Config → ℕ → ℕ → ℕ → Bool
is_row_word c j k w = (w == 0) || (w == config_word c j k)

-- a word under a name; a count is at most the budget of the replica that counts
abbrev pub may_stand : Config → Name → ℕ → Bool
may_stand c (Name.Fence p) w = is_fence c w
may_stand c (Name.Min p) w = is_min c w
may_stand c (Name.Fuo p) w = is_offset c w
may_stand c (Name.Head p) w = is_offset c w
may_stand c (Name.Beat p) w = nat_le w c.budget
may_stand c (Name.Ask p q) w = nat_le w c.budget
may_stand c (Name.Slot p s) w = is_slot c s w
may_stand c (Name.Row r j k) w = is_row_word c j k w

-- the verb reads a word of a row
abbrev pub reads_row : Verb → Bool
reads_row (Verb.ReadRow v k) = true
reads_row verb = false

-- what a step may find under its name: a store is told nothing, and a row is read only once it is
-- written
abbrev pub may_be_told : Config → Verb → Name → ℕ → Bool
may_be_told c (Verb.WriteRow j k x) n w = true
may_be_told c (Verb.ReadRow v k) n w = w == config_word c (v % 4096) k
may_be_told c verb n w = may_stand c n w

-- the word that stands under a name may stand there, whatever legal list came before
abbrev pub StandingMayStand : Type 0
StandingMayStand =
    (c : Config) (past : List Event) (n : Name) → IsConfig c → IsLegalHistory c past
    → may_stand c n (standing_word c past n) ≡ true

-- so a word that a step finds passes; a word of a row does so once it is written
abbrev pub FoundMayBeTold : Type 0
FoundMayBeTold =
    (c : Config) (r : ℕ) (own : Own) (verb : Verb) (word : ℕ) → IsConfig c
    → IsFound c r own verb word → reads_row verb ≡ false
    → may_be_told c verb (name_of c r own.0 verb) word ≡ true
