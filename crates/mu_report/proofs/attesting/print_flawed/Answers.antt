use Rattle.mu_report.proofs.Prints.{same_line}
use Rattle.mu_report.proofs.attesting.print_flawed.Goals as goal

pub returns : goal.returns
returns g c =
    let prints = g.P.Printer.Prints in
    let then = g.met.P.Printer.append in
    then _ _ _ _ _ (same_line prints c.place_line.ensures.bytes c.print_line.ensures)
    (then _ _ _ _ _ (same_line prints c.item_line.ensures.bytes c.print_line-2.ensures) (same_line prints c.flaw_line.ensures.bytes c.print_line-3.ensures))
