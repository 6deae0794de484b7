use Rattle.mu_report.proofs.AccountLines.{account_logs-next}
use Rattle.mu_report.proofs.Prints.{leaves}
use Rattle.mu_report.proofs.accounts.print_account_logs.Goals as goal

pub loop-replica-preserved : goal.loop-replica-preserved
loop-replica-preserved g c = leaves g.P.Printer.Prints g.met.P.Printer.append c.loop-replica.invariant (account_logs-next c.args.account.now _ _ c.loop-replica-test.true) c.print_account_log.ensures
