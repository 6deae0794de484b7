-- applies, tells an order: what a replica that applies commands makes of its store and of the
-- replies by row.
use Rattle.std.specs.Prelude.{List, Some, length, ℕ, ◌++◌, ◌+◌, ◌≡◌, ◌≤◌}
use Rattle.std.specs.declared.option.Option.{Option}
use Rattle.std.specs.List.{slice_get}
use Rattle.kv_store.specs.Commands.{Request}
use Rattle.kv_store.specs.Tables.{Table, empty_table, replies_from, store_from}
use Rattle.kv_store.specs.declared.store.Reply.{Reply}
use Rattle.mu_eras.specs.declared.applied.Applied.{Applied}

-- the command of the row stands in the order, and this is its reply there, from this table on
pub record IsTold (base : Table) (commands order : List Request) (row : ℕ)
    (reply : Reply) : Type 0 where
  pub place : ℕ
  pub command : Request
  pub submitted : slice_get commands row ≡ Some command
  pub ordered : slice_get order place ≡ Some command
  pub replied : slice_get (replies_from base order) place ≡ Some reply

-- each reply that is kept is that to the command of its row in the order, from this table on
abbrev pub TellsOrder : Table → List Request → List Request → List (Option Reply) → Type 0
TellsOrder base commands order told =
    (row : ℕ) (reply : Reply) → slice_get told row ≡ Some (Some reply)
    → IsTold base commands order row reply

-- there is a reply to the command of the row
pub record IsKept (told : List (Option Reply)) (row : ℕ) : Type 0 where
  pub reply : Reply
  pub at : slice_get told row ≡ Some (Some reply)

-- there is one to each of these rows
abbrev pub AreKept : List ℕ → List (Option Reply) → Type 0
AreKept rows told =
    (place row : ℕ) → slice_get rows place ≡ Some row → IsKept told row

-- where there was a reply there is one
abbrev pub KeepsReplies : List (Option Reply) → List (Option Reply) → Type 0
KeepsReplies told after = (row : ℕ) → IsKept told row → IsKept after row

-- these commands were applied: so if what is kept told an order in which they come next, from some
-- table on, it still does
pub record Applies (commands group : List Request) (old new : Applied)
    (told after : List (Option Reply)) : Type 0 where
  pub table : new.store.table ≡ store_from old.store.table group
  pub room : old.store.room ≤ new.store.room + length group
  pub count : new.commands ≡ old.commands + length group
  pub places : length after ≡ length told
  pub keeps : KeepsReplies told after
  pub tells :
      (base : Table) (before rest : List Request) → old.store.table ≡ store_from base before
      → TellsOrder base commands (before ++ group ++ rest) told
      → TellsOrder base commands (before ++ group ++ rest) after

-- a replica has applied nothing, and has room for this many commands
pub record IsFirst (room : ℕ) (a : Applied) : Type 0 where
  pub table : a.store.table ≡ empty_table
  pub entries : a.entries ≡ 0
  pub commands : a.commands ≡ 0
  pub room_is : room ≤ a.store.room

-- so have all
abbrev pub AreFirst : ℕ → List Applied → Type 0
AreFirst room stores = (r : ℕ) (a : Applied) → slice_get stores r ≡ Some a → IsFirst room a
