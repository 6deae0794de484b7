use Rattle.mu_report.proofs.Sizes.{report_fits}
use Rattle.mu_report.proofs.report.print_report.Goals as goal

pub returns-clause-lines : goal.returns-clause-lines
returns-clause-lines g c = g.met.P.Printer.append _ _ _ _ _ c.print_body.ensures.lines c.print_status.ensures

pub returns-clause-fits : goal.returns-clause-fits
returns-clause-fits g c = report_fits c.args.outcome.now c.print_body.ensures.few
