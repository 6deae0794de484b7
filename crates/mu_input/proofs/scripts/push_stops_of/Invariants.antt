use Rattle.std.proofs.Common.{◌≡◌, ◌++◌, take}
use Rattle.mu_input.specs.Scripts.{stops_of}
use Rattle.mu_input.proofs.scripts.push_stops_of.Given as goal

abbrev pub invariant-loop-stop : goal.invariant-loop-stop
invariant-loop-stop l = l.ordered.items ≡ l.fn.ordered.items ++ stops_of l.replica (take l.stop-index l.stops)
