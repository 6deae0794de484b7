-- The entries from this one on are left, and the replies to their commands.
use Rattle.std.proofs.Common.{drop}
use Rattle.mu_outcome.specs.Entries.{commands_in}
use Rattle.mu_report.specs.Report.{answer_lines}
use Rattle.mu_report.proofs.Prints.{Leaves}
use Rattle.mu_report.proofs.report.print_answers.Given as goal

abbrev pub invariant-loop-value : goal.invariant-loop-value
invariant-loop-value g l = Leaves g.P.Printer.Prints l.initial.out (answer_lines (commands_in l.job l.log) l.replies) l.out (answer_lines (commands_in l.job (drop l.value-index l.log)) l.left)
