-- The stops of the replicas before this one.
use Rattle.std.proofs.Common.{◌≡◌}
use Rattle.std.specs.List.{slice_get}
use Rattle.mu_serve.specs.Closing.{stop_if}
use Rattle.mu_serve.specs.Sessions.{is_stopped}
use Rattle.mu_telling.specs.Shown.{given_below}
use Rattle.mu_serve.proofs.closing.stops_so_far.Given as goal

abbrev pub invariant-loop-replica : goal.invariant-loop-replica
invariant-loop-replica l =
    l.stops.items ≡ given_below l.replica (λ r. stop_if (is_stopped (slice_get l.engine.holds r)) r l.events)
