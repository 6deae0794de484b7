use Rattle.std.proofs.Common.{◌≡◌, [], length, vec_capacity}
use Rattle.mu_regions.specs.Stands.{HoldsEach}
use Rattle.mu_regions.proofs.regions.Regions.new.Given as goal

abbrev pub invariant-loop-id : goal.invariant-loop-id
invariant-loop-id l = record { count : length l.regions.items ≡ l.id; room : vec_capacity l.regions ≡ l.config.replicas; each : HoldsEach l.config [] l.regions.items }
