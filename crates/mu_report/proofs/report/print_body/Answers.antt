use Rattle.std.proofs.Common.{arith}
use Rattle.mu_report.proofs.Prints.{same_number}
use Rattle.mu_report.proofs.Sizes.{few_lines}
use Rattle.std.specs.Prelude.{codes}
use Rattle.mu_report.proofs.report.print_body.Goals as goal

pub returns-clause-lines : goal.returns-clause-lines
returns-clause-lines g c =
    let then = g.met.P.Printer.append in
    then _ _ _ _ _ (same_number g.P.Printer.Prints (codes "report ") c.from-version.ensures c.print_numbered.ensures) (then _ _ _ _ _ c.print_logs.ensures c.print_replies.ensures)

pub returns-clause-few : goal.returns-clause-few
returns-clause-few g c = few_lines c.args.outcome.now c.requires (omega arith)
