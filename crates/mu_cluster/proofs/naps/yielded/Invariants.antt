use Rattle.std.proofs.Common.{◌≡◌}
use Rattle.mu_cluster.proofs.naps.yielded.Given as goal

abbrev pub invariant-loop : goal.invariant-loop
invariant-loop l = l.made.count ≡ l.counter
