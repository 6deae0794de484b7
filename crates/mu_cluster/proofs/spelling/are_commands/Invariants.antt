use Rattle.std.proofs.Common.{◌≡◌, ◌<◌, ℕ, Some}
use Rattle.std.specs.List.{slice_get}
use Rattle.kv_store.specs.Commands.{Request}
use Rattle.mu_rows.specs.Rows.{IsCommand}
use Rattle.mu_cluster.proofs.spelling.are_commands.Given as goal

abbrev pub invariant-loop-command : goal.invariant-loop-command
invariant-loop-command l = (j : ℕ) (command : Request) → j < l.command-index → slice_get l.commands j ≡ Some command → IsCommand command
