use Rattle.std.proofs.Common.{arith}
use Rattle.mu_report.proofs.Prints.{same_number}
use Rattle.mu_report.proofs.AccountLines.{account_few, account_fits}
use Rattle.std.specs.Prelude.{codes}
use Rattle.mu_report.proofs.accounts.print_account.Goals as goal

pub returns-clause-lines : goal.returns-clause-lines
returns-clause-lines g c =
    let then = g.met.P.Printer.append in
    then _ _ _ _ _ (then _ _ _ _ _ (same_number g.P.Printer.Prints (codes "report ") c.from-version.ensures c.print_numbered.ensures) (then _ _ _ _ _ c.print_account_logs.ensures c.print_replies.ensures)) c.print_status.ensures

pub returns-clause-fits : goal.returns-clause-fits
returns-clause-fits g c = account_fits c.args.account.now (account_few c.args.account.now c.requires (omega arith))
