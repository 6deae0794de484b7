use Rattle.std.proofs.Common.{ap, map}
use Rattle.mu_report.specs.Facts.{fact_words}
use Rattle.mu_report.proofs.Prints.{same_line, same_lines}
use Rattle.mu_report.proofs.facts.print_moment.Goals as goal

pub returns : goal.returns
returns g c =
    let prints = g.P.Printer.Prints in
    g.met.P.Printer.append _ _ _ _ _ (same_line prints c.moment_line.ensures.bytes c.print_line.ensures)
    (same_lines prints (ap (map fact_words) c.as_slice.ensures) c.print_each.ensures)
