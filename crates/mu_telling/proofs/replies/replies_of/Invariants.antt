-- The replies so far, and those to the commands that are left, are those to all; there is room for these.
use Rattle.std.proofs.Common.{◌≡◌, ◌≤◌, ◌+◌, ◌++◌, drop, length, vec_capacity}
use Rattle.kv_store.specs.Tables.{replies, replies_from}
use Rattle.mu_telling.proofs.replies.replies_of.Given as goal

abbrev pub invariant-loop-command : goal.invariant-loop-command
invariant-loop-command l = record {
  told : l.replies.items ++ replies_from l.store.table (drop l.command-index l.commands) ≡ replies l.commands;
  room : length l.commands ≤ l.command-index + l.store.room;
  space : length l.replies.items + length l.commands ≤ l.command-index + vec_capacity l.replies;
}
