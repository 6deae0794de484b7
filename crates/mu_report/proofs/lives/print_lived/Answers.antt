use Rattle.std.proofs.Common.{ap}
use Rattle.mu_report.specs.Lives.{readers_lines}
use Rattle.mu_report.proofs.LiveLines.{lived_fits}
use Rattle.mu_report.proofs.Prints.{same_lines}
use Rattle.mu_report.proofs.lives.print_lived.Goals as goal

pub returns-clause-lines : goal.returns-clause-lines
returns-clause-lines g c =
    let then = g.met.P.Printer.append in
    then _ _ _ _ _ c.print_body.ensures.lines (then _ _ _ _ _ (same_lines g.P.Printer.Prints (ap (readers_lines 0) c.as_slice.ensures) c.print_readers.ensures) c.print_status.ensures)

pub returns-clause-fits : goal.returns-clause-fits
returns-clause-fits g c = lived_fits c.args.outcome.now c.args.lived.now.sights c.print_body.ensures.few c.requires.sights
