use Rattle.std.proofs.Common.{◌≡◌, ◌≤◌, ◌-◌, drop}
use Rattle.mu_eras.specs.Turns.{count_free}
use Rattle.mu_eras.proofs.counting.free_replicas.Given as goal

abbrev pub invariant-loop-k : goal.invariant-loop-k
invariant-loop-k l = record {
  few : l.free ≤ l.k;
  free : l.free ≡ count_free (drop (l.replicas - l.k) l.engine.holds);
}
