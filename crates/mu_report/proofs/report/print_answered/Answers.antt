use Rattle.std.proofs.Common.{arith}
use Rattle.mu_report.proofs.Lists.{answer_lines-next, answer_lines-past}
use Rattle.mu_report.proofs.Prints.{printed}
use Rattle.mu_report.proofs.Prints.{leaves}
use Rattle.mu_report.proofs.report.print_answered.Goals as goal

pub loop-index-preserved : goal.loop-index-preserved
loop-index-preserved g c = leaves g.P.Printer.Prints g.met.P.Printer.append c.loop-index.invariant (answer_lines-next c.args.commands.now c.args.replies.now c.loop-index.index _ _ _ (omega arith) (omega arith) c.index-commands-index.is c.index-replies-index.is c.answer_line.ensures.bytes) c.print_line.ensures

pub returns : goal.returns
returns g c = printed g.P.Printer.Prints g.met.P.Printer.nothing c.loop-index.invariant (answer_lines-past c.args.commands.now c.args.replies.now c.loop-index.index (omega arith))
