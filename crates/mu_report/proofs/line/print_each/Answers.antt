use Rattle.mu_report.proofs.Lists.{map-drop}
use Rattle.mu_report.proofs.Prints.{leaves}
use Rattle.mu_report.proofs.line.print_each.Goals as goal

pub loop-item-preserved : goal.loop-item-preserved
loop-item-preserved g c = leaves g.P.Printer.Prints g.met.P.Printer.append c.loop-item.invariant (map-drop g.T.HasLine.words c.args.items.now _ _ _ c.loop-item-test.true c.item-item.is c.line.ensures.bytes) c.print_line.ensures
