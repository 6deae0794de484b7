-- The strays from this one on are left.
use Rattle.std.proofs.Common.{drop, map}
use Rattle.mu_report.specs.Facts.{stray_words}
use Rattle.mu_report.proofs.Prints.{Leaves}
use Rattle.mu_report.proofs.facts.print_strays.Given as goal

abbrev pub invariant-loop-stop : goal.invariant-loop-stop
invariant-loop-stop g l = Leaves g.P.Printer.Prints l.initial.out (map stray_words l.strays) l.out (map stray_words (drop l.stop-index l.strays))
