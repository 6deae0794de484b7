-- The logs from this replica on are left.
use Rattle.std.proofs.Common.{◌-◌}
use Rattle.mu_report.specs.Accounts.{account_logs_lines}
use Rattle.mu_report.proofs.Prints.{Leaves}
use Rattle.mu_report.proofs.accounts.print_account_logs.Given as goal

abbrev pub invariant-loop-replica : goal.invariant-loop-replica
invariant-loop-replica g l = Leaves g.P.Printer.Prints l.initial.out (account_logs_lines l.account 0 l.replicas) l.out (account_logs_lines l.account l.replica (l.replicas - l.replica))
