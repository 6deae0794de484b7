use Rattle.std.proofs.Common.{◌≡◌}
use Rattle.mu_input.specs.Scripts.{pauses_in_order}
use Rattle.mu_input.proofs.scripts.pauses_in_order.Given as goal

abbrev pub invariant-loop-replica : goal.invariant-loop-replica
invariant-loop-replica l = l.ordered.items ≡ pauses_in_order l.replica l.pauses
