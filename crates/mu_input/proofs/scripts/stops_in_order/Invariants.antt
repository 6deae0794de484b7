use Rattle.std.proofs.Common.{◌≡◌}
use Rattle.mu_input.specs.Scripts.{stops_in_order}
use Rattle.mu_input.proofs.scripts.stops_in_order.Given as goal

abbrev pub invariant-loop-replica : goal.invariant-loop-replica
invariant-loop-replica l = l.ordered.items ≡ stops_in_order l.replica l.stops
