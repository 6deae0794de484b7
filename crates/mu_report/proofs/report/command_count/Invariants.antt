-- The commands so far, and those of the entries that are left, are those of the log.
use Rattle.std.proofs.Common.{◌≡◌, ◌+◌, drop, length}
use Rattle.mu_outcome.specs.Entries.{commands_in}
use Rattle.mu_report.proofs.report.command_count.Given as goal

abbrev pub invariant-loop-value : goal.invariant-loop-value
invariant-loop-value l = l.count + length (commands_in l.job (drop l.value-index l.log)) ≡ length (commands_in l.job l.log)
