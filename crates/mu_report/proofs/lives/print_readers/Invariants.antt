-- The readers from this one on are left.
use Rattle.std.proofs.Common.{drop}
use Rattle.mu_report.specs.Lives.{readers_lines}
use Rattle.mu_report.proofs.Prints.{Leaves}
use Rattle.mu_report.proofs.lives.print_readers.Given as goal

abbrev pub invariant-loop-reader : goal.invariant-loop-reader
invariant-loop-reader g l = Leaves g.P.Printer.Prints l.initial.out (readers_lines 0 l.lists) l.out (readers_lines l.reader (drop l.reader l.lists))
