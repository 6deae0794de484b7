use Rattle.mu_report.proofs.Traces.{commands_lines-drop}
use Rattle.mu_report.proofs.Prints.{leaves}
use Rattle.mu_report.proofs.trace.print_commands_of.Goals as goal

pub loop-command-preserved : goal.loop-command-preserved
loop-command-preserved g c = leaves g.P.Printer.Prints g.met.P.Printer.append c.loop-command.invariant (commands_lines-drop c.args.client c.args.commands.now c.loop-command.command-index c.command-item.result c.loop-command-test.true c.command-item.is) c.print_command.ensures
