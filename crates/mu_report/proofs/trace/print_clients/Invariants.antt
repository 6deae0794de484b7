-- The clients from this one on are left.
use Rattle.std.proofs.Common.{◌-◌}
use Rattle.mu_report.specs.Trace.{client_lines}
use Rattle.mu_report.proofs.Prints.{Leaves}
use Rattle.mu_report.proofs.trace.print_clients.Given as goal

abbrev pub invariant-loop-client : goal.invariant-loop-client
invariant-loop-client g l = Leaves g.P.Printer.Prints l.initial.out (client_lines l.commands 0 l.count) l.out (client_lines l.commands l.client (l.count - l.client))
