-- store, replies: the key-value store as a table from keys to texts: what each operation leaves and
-- what it answers, and so what a list of commands does.
use Rattle.std.specs.Prelude.{ℕ, refl, List, [], ◌∷◌, Bool, false, if◌then◌else◌, None, Some}
use Rattle.std.specs.declared.option.Option.{Option}
use Rattle.std.specs.Str.{bytes_eq}
use Rattle.std.specs.Ordering.{nat_cmp}
use Rattle.std.specs.Cmp.Lexicographic.{slice_cmp}
use Rattle.std.specs.FinMap as map
use Rattle.std.specs.FinMap.{FinMap}
use Rattle.std.specs.Coded.{Coded, code_by, coded×, coded_list, coded_ℕ}
use Rattle.kv_store.specs.Commands.{Request}
use Rattle.kv_store.specs.declared.command.Op.{Op}
use Rattle.kv_store.specs.declared.command.Op.TheVariants.{Put, Get, Del, Swap, Cas}
use Rattle.kv_store.specs.declared.store.Reply.{Reply}
use Rattle.kv_store.specs.declared.store.Reply.TheVariants as reply

-- a table from keys to texts
abbrev pub Table : Type 0
Table = FinMap (slice_cmp nat_cmp) (List ℕ)

-- no key has a text
abbrev pub empty_table : Table
empty_table = map.empty

-- the reply to get and to swap, if the key had this
abbrev pub had : Option (List ℕ) → Reply
had None = reply.None
had (Some text) = reply.Value text

-- the reply to del, if the key had this
abbrev pub removed : Option (List ℕ) → Reply
removed None = reply.None
removed (Some text) = reply.Done

-- whether the key has exactly this text
abbrev pub holds : Option (List ℕ) → List ℕ → Bool
holds None old = false
holds (Some text) old = bytes_eq text old

-- the reply to cas, if the key had this
abbrev pub compared : Option (List ℕ) → List ℕ → Reply
compared None old = reply.None
compared (Some text) old = if bytes_eq text old then reply.Done else reply.Kept text

-- what an operation answers, on a table
abbrev pub reply_to : Table → Op → Reply
reply_to table (Put key text) = reply.Done
reply_to table (Get key) = had (map.get table key)
reply_to table (Del key) = removed (map.get table key)
reply_to table (Swap key text) = had (map.get table key)
reply_to table (Cas key old new) = compared (map.get table key) old

-- the table that an operation leaves
abbrev pub table_after : Table → Op → Table
table_after table (Put key text) = map.insert table key text
table_after table (Get key) = table
table_after table (Del key) = map.remove table key
table_after table (Swap key text) = map.insert table key text
table_after table (Cas key old new) =
    if holds (map.get table key) old then map.insert table key new else table

-- the table after commands, one after the other, from this one on
abbrev pub store_from : Table → List Request → Table
store_from table [] = table
store_from table (command ∷ commands) = store_from (table_after table command.op) commands

-- the replies to commands, one after the other, from this table on
abbrev pub replies_from : Table → List Request → List Reply
replies_from table [] = []
replies_from table (command ∷ commands) =
    reply_to table command.op ∷ replies_from (table_after table command.op) commands

-- the table after commands, from the empty one on
abbrev pub store : List Request → Table
store commands = store_from empty_table commands

-- the replies to commands, from the empty table on
abbrev pub replies : List Request → List Reply
replies commands = replies_from empty_table commands

-- what a store holds, and how many more commands can surely be applied
pub record Holding : Type 0 where
  pub table : Table
  pub room : ℕ

-- a holding is stored as the pair of its parts
abbrev pub holding_code : Coded Holding
holding_code =
    code_by (Table × ℕ) (coded× (map.code (coded_list coded_ℕ) (coded_list coded_ℕ)) coded_ℕ)
    (λ h. (h.table, h.room)) (λ p. record { table = p.0; room = p.1 }) (λ _. refl)
