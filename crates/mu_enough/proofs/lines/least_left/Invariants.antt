use Rattle.std.proofs.Common.{◌≡◌, ◌≤◌}
use Rattle.mu_enough.specs.Lines.{is_left}
use Rattle.mu_model.specs.Scores.{least_below}
use Rattle.mu_enough.proofs.lines.least_left.Given as goal

abbrev pub invariant-loop-replica : goal.invariant-loop-replica
invariant-loop-replica l = record {
  so_far : l.least ≡ least_below l.replica (is_left l.stops);
  inside : l.least ≤ l.replica;
}
