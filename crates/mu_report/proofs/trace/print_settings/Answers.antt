use Rattle.std.specs.Prelude.{codes}
use Rattle.mu_report.proofs.Prints.{same_number}
use Rattle.mu_report.proofs.trace.print_settings.Goals as goal

pub returns : goal.returns
returns g c =
    let prints = g.P.Printer.Prints in
    let then = g.met.P.Printer.append in
    then _ _ _ _ _ (same_number prints (codes "mu ") c.from.ensures c.print_numbered.ensures)
    (then _ _ _ _ _ (same_number prints (codes "replicas ") c.from-2.ensures c.print_numbered-2.ensures)
    (then _ _ _ _ _ (same_number prints (codes "ring ") c.from-3.ensures c.print_numbered-3.ensures)
    (then _ _ _ _ _ (same_number prints (codes "budget ") c.from-4.ensures c.print_numbered-4.ensures) c.print_batch.ensures)))
