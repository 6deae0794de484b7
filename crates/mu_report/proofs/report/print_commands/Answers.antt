use Rattle.mu_report.specs.Report.{entry_line}
use Rattle.mu_report.proofs.Lists.{map-drop}
use Rattle.mu_report.proofs.Prints.{leaves}
use Rattle.mu_report.proofs.report.print_commands.Goals as goal

pub loop-command-preserved : goal.loop-command-preserved
loop-command-preserved g c = leaves g.P.Printer.Prints g.met.P.Printer.append c.loop-command.invariant (map-drop (entry_line c.args.position) c.args.commands.now c.loop-command.command-index c.command-item.result c.entry_line.result c.loop-command-test.true c.command-item.is c.entry_line.ensures.bytes) c.print_line.ensures
