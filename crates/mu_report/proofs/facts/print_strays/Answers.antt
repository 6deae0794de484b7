use Rattle.mu_report.specs.Facts.{stray_words}
use Rattle.mu_report.proofs.Lists.{map-drop-or}
use Rattle.mu_report.proofs.Prints.{leaves}
use Rattle.mu_report.proofs.facts.print_strays.Goals as goal

pub loop-stop-preserved : goal.loop-stop-preserved
loop-stop-preserved g c = leaves g.P.Printer.Prints g.met.P.Printer.append c.loop-stop.invariant (map-drop-or stray_words c.args.strays.now c.loop-stop.stop-index _ _ c.loop-stop-test.true c.stray_line.ensures.bytes) c.print_line.ensures
