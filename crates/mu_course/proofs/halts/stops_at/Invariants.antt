-- None of the stops before this one is it.
use Rattle.std.proofs.Common.{◌≡◌, drop}
use Rattle.mu_model.specs.Ends.{stops_at}
use Rattle.mu_course.proofs.halts.stops_at.Given as goal

abbrev pub invariant-loop-stop : goal.invariant-loop-stop
invariant-loop-stop l =
    stops_at l.replica l.steps (drop l.stop-index l.stops) ≡ stops_at l.replica l.steps l.stops
