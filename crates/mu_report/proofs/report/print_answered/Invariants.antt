-- The commands from this one on are left, and the replies to them.
use Rattle.std.proofs.Common.{drop}
use Rattle.mu_report.specs.Report.{answer_lines}
use Rattle.mu_report.proofs.Prints.{Leaves}
use Rattle.mu_report.proofs.report.print_answered.Given as goal

abbrev pub invariant-loop-index : goal.invariant-loop-index
invariant-loop-index g l = Leaves g.P.Printer.Prints l.initial.out (answer_lines l.commands l.replies) l.out (answer_lines (drop l.index l.commands) (drop l.index l.replies))
