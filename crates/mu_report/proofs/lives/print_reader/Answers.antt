use Rattle.std.proofs.Common.{ap, map}
use Rattle.mu_report.specs.Lives.{sight_line}
use Rattle.mu_report.proofs.Prints.{same_line, same_lines}
use Rattle.mu_report.proofs.lives.print_reader.Goals as goal

pub returns : goal.returns
returns g c =
    let prints = g.P.Printer.Prints in
    g.met.P.Printer.append _ _ _ _ _ (same_line prints c.reader_line.ensures.bytes c.print_line.ensures)
    (same_lines prints (ap (map sight_line) c.last_of.ensures) c.print_each.ensures)
