use Rattle.mu_report.proofs.Lists.{entry_lines-drop}
use Rattle.mu_report.proofs.Prints.{leaves}
use Rattle.mu_report.proofs.report.print_entries.Goals as goal

pub loop-position-preserved : goal.loop-position-preserved
loop-position-preserved g c = leaves g.P.Printer.Prints g.met.P.Printer.append c.loop-position.invariant (entry_lines-drop c.args.job.now c.args.log.now c.loop-position.position c.loop-position-test.true) c.print_entry.ensures
