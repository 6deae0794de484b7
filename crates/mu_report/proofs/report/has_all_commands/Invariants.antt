-- The missing commands are those of the entries that are left exactly if the log's are the job's.
use Rattle.std.proofs.Common.{◌≡◌, ◌+◌, drop, length}
use Rattle.mu_outcome.specs.Entries.{commands_in}
use Rattle.mu_report.proofs.report.has_all_commands.Given as goal

abbrev pub invariant-loop-value : goal.invariant-loop-value
invariant-loop-value l = length (commands_in l.job l.log) + l.missing ≡ length l.job.commands + length (commands_in l.job (drop l.value-index l.log))
