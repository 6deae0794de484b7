use Rattle.std.proofs.Common.{◌≡◌, drop}
use Rattle.mu_model.specs.Ends.{stops_at}
use Rattle.mu_node.proofs.ending.is_stop.Given as goal

abbrev pub invariant-loop-stop : goal.invariant-loop-stop
invariant-loop-stop l = stops_at l.r l.steps (drop l.stop-index l.stops) ≡ stops_at l.r l.steps l.stops
