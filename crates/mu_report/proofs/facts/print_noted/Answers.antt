use Rattle.mu_report.proofs.Prints.{same_number}
use Rattle.std.specs.Prelude.{codes}
use Rattle.mu_report.proofs.facts.print_noted.Goals as goal

pub returns : goal.returns
returns g c = g.met.P.Printer.append _ _ _ _ _ (same_number g.P.Printer.Prints (codes "legal ") c.from.ensures c.print_numbered.ensures) c.print_strays.ensures
