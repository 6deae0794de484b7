use Rattle.std.proofs.Common.{◌≡◌, [], length, vec_capacity}
use Rattle.mu_placing.specs.Looks.{HoldsEachRegion}
use Rattle.mu_placing.proofs.looks.Looks.new.Given as goal

abbrev pub invariant-loop-p : goal.invariant-loop-p
invariant-loop-p l = record { count : length l.regions.items ≡ l.p; room : vec_capacity l.regions ≡ 7; each : HoldsEachRegion l.config l.r [] l.regions.items }
