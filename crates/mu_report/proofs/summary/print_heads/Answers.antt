use Rattle.mu_report.proofs.Summaries.{head_lines-next}
use Rattle.mu_report.proofs.Prints.{leaves}
use Rattle.mu_report.proofs.summary.print_heads.Goals as goal

pub loop-replica-preserved : goal.loop-replica-preserved
loop-replica-preserved g c = leaves g.P.Printer.Prints g.met.P.Printer.append c.loop-replica.invariant (head_lines-next c.args.outcome.now _ _ _ c.loop-replica-test.true c.log_line.ensures.bytes) c.print_line.ensures
