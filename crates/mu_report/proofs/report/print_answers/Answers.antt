use Rattle.mu_report.proofs.Lists.{answer_lines-drop}
use Rattle.mu_report.proofs.Prints.{leaves}
use Rattle.mu_report.proofs.report.print_answers.Goals as goal

pub loop-value-preserved : goal.loop-value-preserved
loop-value-preserved g c = leaves g.P.Printer.Prints g.met.P.Printer.append c.loop-value.invariant (answer_lines-drop c.args.job.now c.args.log.now c.loop-value.value-index c.commands_of-commands.result.now c.loop-value.left.now c.min.result c.loop-value-test.true c.commands_of-commands.ensures c.min.ensures) c.print_answered.ensures
