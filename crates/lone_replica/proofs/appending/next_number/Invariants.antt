use Rattle.std.proofs.Common.{◌≡◌, ◌+◌, ◌≤◌}
use Rattle.mu_model.specs.Contents.{rows_before}
use Rattle.lone_replica.proofs.appending.next_number.Given as goal

abbrev pub invariant-loop-j : goal.invariant-loop-j
invariant-loop-j l = (l.number ≡ rows_before l.config l.client l.j + 1) × (l.number ≤ l.j + 1)
