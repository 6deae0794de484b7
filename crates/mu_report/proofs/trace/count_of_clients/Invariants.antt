-- The count so far, and the commands that are left, come to the count of all. It stays within the clients of 8 bits.
use Rattle.std.proofs.Common.{◌≡◌, drop}
use Rattle.mu_report.specs.Trace.{client_count}
use Rattle.mu_report.proofs.trace.count_of_clients.Given as goal

abbrev pub invariant-loop-command : goal.invariant-loop-command
invariant-loop-command l = client_count l.count (drop l.command-index l.commands) ≡ client_count 0 l.commands
