-- The entries from this one on are left.
use Rattle.std.proofs.Common.{drop}
use Rattle.mu_report.specs.Report.{entry_lines}
use Rattle.mu_report.proofs.Prints.{Leaves}
use Rattle.mu_report.proofs.report.print_entries.Given as goal

abbrev pub invariant-loop-position : goal.invariant-loop-position
invariant-loop-position g l = Leaves g.P.Printer.Prints l.initial.out (entry_lines l.job 0 l.log) l.out (entry_lines l.job l.position (drop l.position l.log))
