-- The commands so far, and those of the entries that are left, are those of the log.
use Rattle.std.proofs.Common.{◌≡◌, ◌++◌, drop}
use Rattle.mu_outcome.specs.Entries.{commands_in}
use Rattle.mu_telling.proofs.replies.commands_in.Given as goal

abbrev pub invariant-loop-value : goal.invariant-loop-value
invariant-loop-value l = l.commands.items ++ commands_in l.job (drop l.value-index l.log) ≡ commands_in l.job l.log
