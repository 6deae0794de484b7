-- verb of a leader: the events that change what is known of logs and looks, and those among them
-- that may change the state of a leadership; the states skip all other events.
use Rattle.std.specs.Prelude.{Bool, None, Some, false, true, ℕ}
use Rattle.std.specs.declared.option.Option.{Option}
use Rattle.mu_model.specs.declared.event.Verb.{Verb}

-- a verb of a leader that may change its leadership
abbrev pub changes_leadership : Verb → Bool
changes_leadership (Verb.Ask p) = true
changes_leadership (Verb.Fence p) = true
changes_leadership (Verb.Min p) = true
changes_leadership (Verb.Enter p t) = true
changes_leadership (Verb.PutMin p b) = true
changes_leadership (Verb.PutSlot p i b v) = true
changes_leadership _ = false

-- a verb of a leader
abbrev pub is_leader_verb : Verb → Bool
is_leader_verb (Verb.Look p i) = true
is_leader_verb (Verb.Fuo p) = true
is_leader_verb (Verb.RaiseFuo p u) = true
is_leader_verb verb = changes_leadership verb

-- the verb reads a fence
abbrev pub reads_fence : Verb → Bool
reads_fence (Verb.Fence p) = true
reads_fence _ = false

-- the region at which the verb is a step, if it may change what was done there and nowhere else
abbrev pub region_named : Verb → Option ℕ
region_named (Verb.Fence p) = Some p
region_named (Verb.Min p) = Some p
region_named (Verb.Enter p t) = Some p
region_named (Verb.PutMin p b) = Some p
region_named (Verb.PutSlot p i b v) = Some p
region_named _ = None

-- the region of an entry or of a put into a slot: such a step changes only the target that it is
-- entered with, and ends the leadership if it lost or missed
abbrev pub region_entered : Verb → Option ℕ
region_entered (Verb.Enter p t) = Some p
region_entered (Verb.PutSlot p i b v) = Some p
region_entered _ = None
