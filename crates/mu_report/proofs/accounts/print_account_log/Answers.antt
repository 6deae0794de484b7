use Rattle.std.proofs.Common.{ap}
use Rattle.mu_report.specs.Report.{entry_lines}
use Rattle.mu_report.proofs.Prints.{same_line, same_lines}
use Rattle.mu_report.proofs.accounts.print_account_log.Goals as goal

pub returns : goal.returns
returns g c =
    let prints = g.P.Printer.Prints in
    g.met.P.Printer.append _ _ _ _ _ (same_line prints c.account_line.ensures.bytes c.print_line.ensures)
    (same_lines prints (ap (entry_lines c.args.account.now.outcome.job 0) c.log_at.ensures) c.print_entries.ensures)
