-- packed words: the number that packs the fields of a slot, a minimum or a fence, and the fields
-- that a number shows.
--
-- From the top bit a slot word has stamp 17, lap 9, proposal 23 and payload 15 bits; a minimum word
-- stamp 17, 24 that are 0, and proposal 23; a fence word 32 that are 0, grant 17, closing 1, owner
-- 3 and target 11.
use Rattle.std.specs.Prelude.{Bool, None, Some, false, if◌then◌else◌, suc, true, zero, ℕ, ◌%◌, ◌*◌, ◌+◌, ◌/◌, ◌<◌, ◌==◌}
use Rattle.std.specs.declared.option.Option.{Option}
use Rattle.mu_model.specs.declared.event.Fence.{Fence}
use Rattle.mu_model.specs.declared.event.Target.{Target}
use Rattle.mu_words.specs.declared.words.MinWord.{MinWord}
use Rattle.mu_words.specs.declared.words.SlotWord.{SlotWord}

-- a slot word of these fields
abbrev pub slot_word : ℕ → ℕ → ℕ → ℕ → ℕ
slot_word stamp lap proposal payload =
    stamp * 140737488355328 + lap * 274877906944 + proposal * 32768 + payload

abbrev pub slot_bits : SlotWord → ℕ
slot_bits x = slot_word x.stamp x.lap x.proposal x.payload

-- the fields of a slot word are in their ranges
pub record SlotFits (x : SlotWord) : Type 0 where
  pub stamp_fits : x.stamp < 131072
  pub lap_fits : x.lap < 512
  pub proposal_fits : x.proposal < 8388608
  pub payload_fits : x.payload < 32768

-- what a word shows as a slot
abbrev pub slot_in : ℕ → SlotWord
slot_in w =
    record {
      stamp = w / 140737488355328;
      lap = w / 274877906944 % 512;
      proposal = w / 32768 % 8388608;
      payload = w % 32768;
    }

-- a minimum word of these fields
abbrev pub min_word : ℕ → ℕ → ℕ
min_word stamp proposal = stamp * 140737488355328 + proposal

abbrev pub min_bits : MinWord → ℕ
min_bits x = min_word x.stamp x.proposal

-- the fields of a minimum word are in their ranges
pub record MinFits (x : MinWord) : Type 0 where
  pub stamp_fits : x.stamp < 131072
  pub proposal_fits : x.proposal < 8388608

-- what a word shows as a minimum
abbrev pub min_in : ℕ → MinWord
min_in w = record { stamp = w / 140737488355328; proposal = w % 8388608 }

-- the owner as a number: 7 is none
abbrev pub owner_code : Option ℕ → ℕ
owner_code None = 7
owner_code (Some w) = w

-- the target as a number: 0 is none, 1 the minimum, and s + 2 the place s
abbrev pub target_code : Target → ℕ
target_code Target.None = 0
target_code Target.Min = 1
target_code (Target.Place s) = s + 2

-- the bit of a closing fence at its place
abbrev pub closing_code : Bool → ℕ
closing_code false = 0
closing_code true = 16384

-- a fence word of these fields
abbrev pub fence_bits : ℕ → Bool → Option ℕ → Target → ℕ
fence_bits grant closing owner target =
    grant * 32768 + closing_code closing + owner_code owner * 2048 + target_code target

-- the owner is none, or one of seven
abbrev pub OwnerFits : Option ℕ → Type 0
OwnerFits None = Unit {0}
OwnerFits (Some w) = w < 7

-- the place that the target names, if it names one, has a number in a fence word
abbrev pub TargetFits : Target → Type 0
TargetFits (Target.Place s) = s < 2046
TargetFits _ = Unit {0}

-- the fields of a fence word are in their ranges
pub record FenceFits (grant : ℕ) (owner : Option ℕ) (target : Target) : Type 0 where
  pub grant_fits : grant < 131072
  pub owner_fits : OwnerFits owner
  pub target_fits : TargetFits target

-- the owner that a number stands for
abbrev pub owner_from : ℕ → Option ℕ
owner_from w = if w == 7 then None else Some w

-- the target that a number stands for
abbrev pub target_from : ℕ → Target
target_from zero = Target.None
target_from (suc zero) = Target.Min
target_from (suc (suc s)) = Target.Place s

-- what a word shows as a fence
abbrev pub fence_in : ℕ → Fence
fence_in w =
    record {
      owner = owner_from (w / 2048 % 8);
      grant = w / 32768 % 131072;
      closing =
          (w / 16384 % 2 == 1);
      target = target_from (w % 2048);
    }
