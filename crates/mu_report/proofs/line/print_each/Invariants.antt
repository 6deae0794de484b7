-- The lines from this item on are left.
use Rattle.std.proofs.Common.{drop, map}
use Rattle.mu_report.proofs.Prints.{Leaves}
use Rattle.mu_report.proofs.line.print_each.Given as goal

abbrev pub invariant-loop-item : goal.invariant-loop-item
invariant-loop-item g l = Leaves g.P.Printer.Prints l.initial.out (map g.T.HasLine.words l.items) l.out (map g.T.HasLine.words (drop l.item-index l.items))
