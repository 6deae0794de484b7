-- Laws of the store and its replies, over lists of commands.
use Rattle.std.proofs.Common.{◌≡◌, suc, List, [], ◌∷◌, ◌++◌, length, refl, ap}
use Rattle.kv_store.specs.Commands.{Request}
use Rattle.kv_store.specs.Tables.{Table, empty_table, reply_to, table_after, store_from, replies_from, store, replies}

-- the table after commands and then others
pub store_from-append : (table : Table) (commands others : List Request) → store_from table (commands ++ others) ≡ store_from (store_from table commands) others
store_from-append table [] others = refl
store_from-append table (command ∷ commands) others = store_from-append (table_after table command.op) commands others

-- the replies to commands and then to others
pub replies_from-append : (table : Table) (commands others : List Request) → replies_from table (commands ++ others) ≡ replies_from table commands ++ replies_from (store_from table commands) others
replies_from-append table [] others = refl
replies_from-append table (command ∷ commands) others = ap (λ rest. reply_to table command.op ∷ rest) (replies_from-append (table_after table command.op) commands others)

-- one more command goes on from the table before it
pub store_from-push : (table : Table) (commands : List Request) (command : Request) → store_from table (commands ++ command ∷ []) ≡ table_after (store_from table commands) command.op
store_from-push table commands command = store_from-append table commands (command ∷ [])

pub store-push : (commands : List Request) (command : Request) → store (commands ++ command ∷ []) ≡ table_after (store commands) command.op
store-push = store_from-push empty_table

-- each command has a reply
pub length-replies_from : (table : Table) (commands : List Request) → length (replies_from table commands) ≡ length commands
length-replies_from table [] = refl
length-replies_from table (command ∷ commands) = ap suc (length-replies_from (table_after table command.op) commands)

pub length-replies : (commands : List Request) → length (replies commands) ≡ length commands
length-replies = length-replies_from empty_table
