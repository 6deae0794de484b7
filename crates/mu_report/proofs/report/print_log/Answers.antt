use Rattle.std.proofs.Common.{ap}
use Rattle.mu_report.specs.Report.{entry_lines}
use Rattle.mu_report.proofs.Prints.{same_line, same_lines}
use Rattle.mu_report.proofs.report.print_log.Goals as goal

pub returns : goal.returns
returns g c =
    let prints = g.P.Printer.Prints in
    g.met.P.Printer.append _ _ _ _ _ (same_line prints c.log_line.ensures.bytes c.print_line.ensures)
    (same_lines prints (ap (entry_lines c.args.outcome.now.job 0) c.log_at.ensures) c.print_entries.ensures)
