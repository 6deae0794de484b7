-- None of the stops before this one is it.
use Rattle.std.proofs.Common.{◌≡◌, drop}
use Rattle.mu_telling.specs.Straying.{stop_of}
use Rattle.mu_telling.proofs.straying.stop_of.Given as goal

abbrev pub invariant-loop-stop : goal.invariant-loop-stop
invariant-loop-stop l = stop_of l.replica (drop l.stop-index l.stops) ≡ stop_of l.replica l.stops
