use Rattle.mu_report.proofs.Prints.{same_line}
use Rattle.mu_report.proofs.attesting.print_attested.Goals as goal

pub returns : goal.returns
returns g c = same_line g.P.Printer.Prints c.attested_line.ensures.bytes c.print_line.ensures
