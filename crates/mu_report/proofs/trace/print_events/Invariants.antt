-- The events from this one on are left.
use Rattle.std.proofs.Common.{drop, map}
use Rattle.mu_report.specs.Trace.{event_line}
use Rattle.mu_report.proofs.Prints.{Leaves}
use Rattle.mu_report.proofs.trace.print_events.Given as goal

abbrev pub invariant-loop-k : goal.invariant-loop-k
invariant-loop-k g l = Leaves g.P.Printer.Prints l.initial.out (map event_line l.journal.events) l.out (map event_line (drop l.k l.journal.events))
