-- The best so far, or the longest of those that are left.
use Rattle.std.proofs.Common.{◌≡◌, drop}
use Rattle.mu_outcome.specs.Entries.{longest}
use Rattle.mu_outcome.proofs.LongestLogs.{longer}
use Rattle.mu_outcome.proofs.logs.longest.Given as goal

abbrev pub invariant-loop-log : goal.invariant-loop-log
invariant-loop-log l = longer l.best (longest (drop l.log-index l.logs)) ≡ longest l.logs
