use Rattle.std.proofs.Common.{◌≡◌, [], length, vec_capacity}
use Rattle.mu_replicas.proofs.Whole.{HoldsEach}
use Rattle.mu_replicas.proofs.replicas.Replicas.new.Given as goal

abbrev pub invariant-loop-replica : goal.invariant-loop-replica
invariant-loop-replica l = record { count : length l.replicas.items ≡ l.replica; room : vec_capacity l.replicas ≡ l.config.replicas; each : HoldsEach l.config [] l.replicas.items }
