use Rattle.std.proofs.Common.{length}
use Rattle.mu_input.specs.Traces.{HasRead}
use Rattle.mu_input.proofs.traces.read_trace.Given as goal

abbrev pub invariant-loop-events : goal.invariant-loop-events
invariant-loop-events l = HasRead l.bytes l.job l.events.items l.lines

abbrev pub decreases-loop-events : goal.decreases-loop-events
decreases-loop-events l = length l.lines.left.lines
