use Rattle.std.proofs.Common.{◌≡◌, drop, max}
use Rattle.mu_enough.specs.Lines.{last_stop_below}
use Rattle.mu_enough.proofs.lines.last_stop_below.Given as goal

abbrev pub invariant-loop-stop : goal.invariant-loop-stop
invariant-loop-stop l =
    max l.last (last_stop_below (drop l.stop-index l.stops) l.least)
    ≡ last_stop_below l.stops l.least
