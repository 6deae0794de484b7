-- The lines from this replica on are left.
use Rattle.std.proofs.Common.{◌-◌}
use Rattle.mu_report.specs.Summary.{head_lines}
use Rattle.mu_report.proofs.Prints.{Leaves}
use Rattle.mu_report.proofs.summary.print_heads.Given as goal

abbrev pub invariant-loop-replica : goal.invariant-loop-replica
invariant-loop-replica g l = Leaves g.P.Printer.Prints l.initial.out (head_lines l.outcome 0 l.replicas) l.out (head_lines l.outcome l.replica (l.replicas - l.replica))
