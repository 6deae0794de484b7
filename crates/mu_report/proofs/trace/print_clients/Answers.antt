use Rattle.mu_report.proofs.Traces.{client_lines-next}
use Rattle.mu_report.proofs.Prints.{same_number}
use Rattle.mu_report.proofs.Prints.{leaves}
use Rattle.std.specs.Prelude.{codes}
use Rattle.mu_report.proofs.trace.print_clients.Goals as goal

pub loop-client-preserved : goal.loop-client-preserved
loop-client-preserved g c = leaves g.P.Printer.Prints g.met.P.Printer.append c.loop-client.invariant (client_lines-next c.args.commands.now _ _ c.loop-client-test.true) (g.met.P.Printer.append _ _ _ _ _ (same_number g.P.Printer.Prints (codes "client ") c.from.ensures c.print_numbered.ensures) c.print_commands_of.ensures)
