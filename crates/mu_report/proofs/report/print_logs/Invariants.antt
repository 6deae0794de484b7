-- The logs from this replica on are left.
use Rattle.std.proofs.Common.{◌-◌}
use Rattle.mu_report.specs.Report.{logs_lines}
use Rattle.mu_report.proofs.Prints.{Leaves}
use Rattle.mu_report.proofs.report.print_logs.Given as goal

abbrev pub invariant-loop-replica : goal.invariant-loop-replica
invariant-loop-replica g l = Leaves g.P.Printer.Prints l.initial.out (logs_lines l.outcome 0 l.replicas) l.out (logs_lines l.outcome l.replica (l.replicas - l.replica))
