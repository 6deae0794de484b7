-- in range, region read, first ask: the replica and all that a verb names exist; the region that
-- the step of a verb reads; an ask that begins a leadership, which is the only ask that changes
-- other regions.
use Rattle.std.specs.Prelude.{ℕ, Bool, false, true, ◌==◌, ◌%◌, ◌+◌, ◌/◌, ◌<◌, ◌≤◌}
use Rattle.mu_model.specs.declared.config.Config.{Config}
use Rattle.mu_model.specs.declared.event.Verb.{Verb}
use Rattle.mu_model.specs.Contents.{row_count}
use Rattle.mu_model.specs.Room.{reserve}

-- the region, or the replica with its rows, that a step of r reads
abbrev pub read_at : ℕ → Verb → ℕ
read_at r (Verb.Ask p) = p
read_at r (Verb.Fence p) = p
read_at r (Verb.Min p) = p
read_at r (Verb.Enter p t) = p
read_at r (Verb.PutMin p b) = p
read_at r (Verb.Look p i) = p
read_at r (Verb.PutSlot p i b v) = p
read_at r (Verb.Fuo p) = p
read_at r (Verb.RaiseFuo p u) = p
read_at r (Verb.Head q) = q
read_at r (Verb.ReadBeat q) = q
read_at r (Verb.ReadRow v k) = v / 4096
read_at r _ = r

-- an ask that begins a leadership: of all regions it changes what its replica has noted
abbrev pub is_first : Verb → Bool
is_first (Verb.Ask p) = p == 0
is_first _ = false

-- the positions, rows and words that a verb names are there, and so is the replica whose asks it
-- reads
abbrev pub IsNear : Config → Verb → Type 0
IsNear c (Verb.PutSlot p i b v) = i ≤ row_count c + reserve c
IsNear c (Verb.WriteRow j k x) = (j < row_count c) × (k < 12)
IsNear c (Verb.ReadRow v k) = (v % 4096 < row_count c) × (k < 12)
IsNear c (Verb.ReadAsk w) = w < c.replicas
IsNear c _ = Unit {0}

-- the replica r, and all that its step names, are there
pub record InRange (c : Config) (r : ℕ) (verb : Verb) : Type 0 where
  pub replica : r < c.replicas
  pub read : read_at r verb < c.replicas
  pub near : IsNear c verb

-- the verb only reads: it changes no region, and nothing that a replica noted
abbrev pub is_read_alone : Verb → Bool
is_read_alone (Verb.Min p) = true
is_read_alone (Verb.Look p i) = true
is_read_alone (Verb.Fuo p) = true
is_read_alone (Verb.Head q) = true
is_read_alone (Verb.ReadBeat q) = true
is_read_alone (Verb.ReadRow v k) = true
is_read_alone (Verb.ReadAsk w) = true
is_read_alone Verb.LookTarget = true
is_read_alone _ = false
