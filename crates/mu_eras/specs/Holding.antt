-- applied so far, whole: what a replica's store holds in an era that began with some table, and at
-- the end of the era.
use Rattle.std.specs.Prelude.{List, Some, length, take, ℕ, ◌+◌, ◌<◌, ◌≡◌, ◌≤◌}
use Rattle.std.specs.declared.option.Option.{Option}
use Rattle.std.specs.List.{slice_get}
use Rattle.kv_store.specs.Tables.{Table, store_from}
use Rattle.kv_store.specs.declared.store.Reply.{Reply}
use Rattle.mu_model.specs.Contents.{rows_in}
use Rattle.mu_outcome.specs.Entries.{commands_in}
use Rattle.mu_engine.specs.Laws.{order_after}
use Rattle.mu_engine.specs.Live.{Live}
use Rattle.mu_engine.specs.Telling.{handed_log}
use Rattle.mu_eras.specs.Applied.{AreKept}
use Rattle.mu_eras.specs.declared.applied.Applied.{Applied}

-- what replica r of the engine has handed on
abbrev pub handed_by : Live → ℕ → List ℕ
handed_by live r = handed_log live.job.config live.events r

-- replica r has applied the first of these entries, from this table on, and there is room for all
-- commands of the era
pub record HoldsApplied (base : Table) (live : Live) (r : ℕ) (a : Applied) : Type 0 where
  pub within : a.entries ≤ length (handed_by live r)
  pub table :
      a.store.table ≡ store_from base (commands_in live.job (take a.entries (handed_by live r)))
  pub count : a.commands ≡ length (commands_in live.job (take a.entries (handed_by live r)))
  pub room : length live.job.commands + live.room ≤ a.store.room + a.commands

-- so has each replica
abbrev pub HoldStores : Table → Live → List Applied → Type 0
HoldStores base live stores =
    (r : ℕ) (a : Applied) → slice_get stores r ≡ Some a → HoldsApplied base live r a

-- replica r has applied the first of these entries, from some table on
abbrev pub IsApplied : Live → ℕ → Applied → Type 0
IsApplied live r a = ∥ ((base : Table) × HoldsApplied base live r a) ∥₁

-- all have, from the same table on
abbrev pub AreInside : Live → List Applied → Type 0
AreInside live stores = ∥ ((base : Table) × HoldStores base live stores) ∥₁

-- replica r has handed on every command of the era
abbrev pub IsSettledBy : Live → ℕ → Type 0
IsSettledBy live r =
    length live.job.commands ≡ length (commands_in live.job (handed_by live r))

-- a replica has applied every command of the era, from this table on, in the order of the longest
-- log; and there is as much room as the era has commands left
pub record HoldsWhole (base : Table) (live : Live) (a : Applied) : Type 0 where
  pub table : a.store.table ≡ store_from base (order_after live.job live.events)
  pub room : live.room ≤ a.store.room

-- and it is where an era begins
pub record HoldsEnded (base : Table) (live : Live) (a : Applied) : Type 0 where
  pub whole : HoldsWhole base live a
  pub entries : a.entries ≡ 0
  pub commands : a.commands ≡ 0

-- so is each replica
abbrev pub HoldEnded : Table → Live → List Applied → Type 0
HoldEnded base live stores =
    (r : ℕ) (a : Applied) → slice_get stores r ≡ Some a → HoldsEnded base live a

-- each command that a replica has applied has its reply
abbrev pub AreTaken : Live → List Applied → List (Option Reply) → Type 0
AreTaken live stores told =
    (r : ℕ) (a : Applied) → slice_get stores r ≡ Some a
    → AreKept (rows_in live.job.config (take a.entries (handed_by live r))) told

-- each command that a replica has handed on has its reply
abbrev pub AreFollowed : Live → List (Option Reply) → Type 0
AreFollowed live told =
    (r : ℕ) → r < length live.holds → AreKept (rows_in live.job.config (handed_by live r)) told

-- each has room for this many commands
abbrev pub HaveRoomFor : ℕ → List Applied → Type 0
HaveRoomFor room stores =
    (r : ℕ) (a : Applied) → slice_get stores r ≡ Some a → room ≤ a.store.room
