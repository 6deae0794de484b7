use Rattle.mu_report.proofs.LiveLines.{readers_lines-drop}
use Rattle.mu_report.proofs.Prints.{leaves}
use Rattle.mu_report.proofs.lives.print_readers.Goals as goal

pub loop-reader-preserved : goal.loop-reader-preserved
loop-reader-preserved g c = leaves g.P.Printer.Prints g.met.P.Printer.append c.loop-reader.invariant (readers_lines-drop c.args.lists.now c.loop-reader.reader _ _ c.loop-reader-test.true c.index-lists-reader.is c.as_slice.ensures) c.print_reader.ensures
