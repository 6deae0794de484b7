-- The commands from this one on are left.
use Rattle.std.proofs.Common.{drop}
use Rattle.mu_report.specs.Trace.{commands_lines}
use Rattle.mu_report.proofs.Prints.{Leaves}
use Rattle.mu_report.proofs.trace.print_commands_of.Given as goal

abbrev pub invariant-loop-command : goal.invariant-loop-command
invariant-loop-command g l = Leaves g.P.Printer.Prints l.initial.out (commands_lines l.client l.commands) l.out (commands_lines l.client (drop l.command-index l.commands))
