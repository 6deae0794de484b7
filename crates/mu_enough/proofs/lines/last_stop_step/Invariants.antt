use Rattle.std.proofs.Common.{◌≡◌, drop, max}
use Rattle.mu_enough.specs.Lines.{last_stop_step}
use Rattle.mu_enough.proofs.lines.last_stop_step.Given as goal

abbrev pub invariant-loop-stop : goal.invariant-loop-stop
invariant-loop-stop l =
    max l.last (last_stop_step (drop l.stop-index l.stops)) ≡ last_stop_step l.stops
