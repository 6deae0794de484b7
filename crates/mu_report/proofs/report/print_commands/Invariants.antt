-- The commands from this one on are left.
use Rattle.std.proofs.Common.{drop, map}
use Rattle.mu_report.specs.Report.{entry_line}
use Rattle.mu_report.proofs.Prints.{Leaves}
use Rattle.mu_report.proofs.report.print_commands.Given as goal

abbrev pub invariant-loop-command : goal.invariant-loop-command
invariant-loop-command g l = Leaves g.P.Printer.Prints l.initial.out (map (entry_line l.position) l.commands) l.out (map (entry_line l.position) (drop l.command-index l.commands))
