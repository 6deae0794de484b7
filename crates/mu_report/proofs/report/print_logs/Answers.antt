use Rattle.mu_report.proofs.Lists.{logs_lines-next}
use Rattle.mu_report.proofs.Prints.{leaves}
use Rattle.mu_report.proofs.report.print_logs.Goals as goal

pub loop-replica-preserved : goal.loop-replica-preserved
loop-replica-preserved g c = leaves g.P.Printer.Prints g.met.P.Printer.append c.loop-replica.invariant (logs_lines-next c.args.outcome.now _ _ c.loop-replica-test.true) c.print_log.ensures
